-- Objects that are written one after the other are found again, after a message's header.
use Rattle.std.proofs.Common.{◌≡◌, ℕ, ◌+◌, ◌%◌, ◌^◌, ◌<◌, true, false, eqb, ltb, List, [], ◌∷◌, ◌++◌, length, drop, None, Ok, refl, ap, ◌∙◌, arith}
use Rattle.std.specs.List.{AllByRecursion}
use Rattle.std.proofs.lemmas.Bool.{le-ltb, eq-eqb, and_parts}
use Rattle.std.proofs.lemmas.List.{drop_at, length-append}
use Rattle.byteorder.specs.Endian.{big_bytes, big_number}
use Rattle.byteorder.specs.Numbers.{big_number-reads_back}
use Rattle.pcep_objects.specs.Objects.{object_at}
use Rattle.pcep_objects.specs.Spelling as spelling
use Rattle.pcep_objects.specs.declared.object.Object.{Object}
use Rattle.pcep_objects.proofs.ObjectsAgain.{again, body_fours}
use Rattle.pcep_messages.specs.Objects.{Found, found_from, found_in}
use Rattle.pcep_messages.specs.Messages.{has_header, message_of, message_in}
use Rattle.pcep_messages.specs.Spelling.{object_spelled, object_fits, objects_spelled, objects_fit, message_spelled}
use Rattle.pcep_messages.proofs.Finding.{step, passed}

-- ---- objects

abbrev pub Good : Object → Type 0
Good object = spelling.IsNormal object × (spelling.fits object ≡ true)

pub all_good : (objects : List Object) → AllByRecursion spelling.IsNormal objects → objects_fit objects ≡ true → AllByRecursion Good objects
unfolding object_fits
all_good [] normal fit = tt
all_good (object ∷ objects) normal fit =
    let both = and_parts (object_fits object) (objects_fit objects) fit in
    ((normal.0, both.0), all_good objects normal.1 both.1)

object_first : (rest : List ℕ) (object : Object) (n : ℕ) → 0 < length rest → 0 < n → object_at rest ≡ Ok (object, n)
    → found_in rest ≡ record { objects = object ∷ (found_in (drop n rest)).objects; fault = (found_in (drop n rest)).fault }
object_first rest object n some pos e =
    step false rest some ∙ rw e (ap (λ (f : Found). record { objects = object ∷ f.objects; fault = f.fault }) (passed false rest n pos some))

one_more : (bytes more : List ℕ) (object : Object) (objects : List Object) → 0 < length bytes → object_at (bytes ++ more) ≡ Ok (object, length bytes) → found_in more ≡ record { objects = objects; fault = None }
    → found_in (bytes ++ more) ≡ record { objects = object ∷ objects; fault = None }
one_more bytes more object objects pos e found =
    object_first (bytes ++ more) object (length bytes) (omega (arith, length-append bytes more)) pos e ∙ rw (drop_at bytes more (length bytes) refl, found) refl

pub found_again : (objects : List Object) → AllByRecursion Good objects → found_in (objects_spelled objects) ≡ record { objects = objects; fault = None }
unfolding found_from object_spelled
found_again [] good = refl
found_again (object ∷ objects) good =
    let some : 0 < length (spelling.written object) = omega arith in
    one_more (spelling.written object) (objects_spelled objects) object objects some (again object (objects_spelled objects) good.0.0 good.0.1) (found_again objects good.1)

pub whole : (objects : List Object) → AllByRecursion spelling.IsNormal objects → length (objects_spelled objects) % 4 ≡ 0
unfolding object_spelled
whole [] normal = refl
whole (object ∷ objects) normal =
    let body = body_fours object normal.0 in
    let one : length (spelling.written object) ≡ length (spelling.body_written object) + 4 = omega arith in
    let more = whole objects normal.1 in
    let both : length (objects_spelled (object ∷ objects)) ≡ length (spelling.written object) + length (objects_spelled objects) = length-append (spelling.written object) (objects_spelled objects) in
    omega (arith, body, one, more, both)

-- ---- headers

has_header_again : (kind : ℕ) (body : List ℕ) → length body + 4 < 2 ^ 16 → length body % 4 ≡ 0 → has_header (message_spelled kind body) ≡ true
has_header_again kind body fit fours =
    let n = length body + 4 in
    let size : big_number 2 (big_bytes 2 n ++ body) ≡ n = big_number-reads_back 2 n body (omega arith) in
    let long : ltb (length (message_spelled kind body)) 4 ≡ false = le-ltb _ _ (omega arith) in
    let same : eqb n (length (message_spelled kind body)) ≡ true = eq-eqb _ _ (omega arith) in
    let rest : eqb (length (message_spelled kind body) % 4) 0 ≡ true = eq-eqb _ _ (omega arith) in
    rw (size, long, same, rest) refl

pub message_again : (kind : ℕ) (body : List ℕ) → length body + 4 < 2 ^ 16 → length body % 4 ≡ 0 → message_in (message_spelled kind body) ≡ message_of kind body
unfolding message_in
message_again kind body fit fours = rw (has_header_again kind body fit fours) refl
