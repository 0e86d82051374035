-- Links and their values are read again from their words.
use Rattle.std.proofs.Common.{◌≡◌, ℕ, ◌+◌, ◌<◌, ◌==◌, Bool, true, false, List, [], ◌∷◌, length, map, codes, Option, Some, None, nat_le, refl, sym, ap, ◌∙◌, append_assoc, arith}
use Rattle.std.specs.Fmt.{decimal}
use Rattle.std.specs.Bool.{Decides}
use Rattle.std.specs.Char.{is_ascii_digit}
use Rattle.std.specs.List.{All, AllByRecursion, list_all, filter_map}
use Rattle.std.specs.Str.{all_ascii_digits, bytes_eq}
use Rattle.std.proofs.lemmas.Bool.{and_parts}
use Rattle.std.proofs.lemmas.Bool.Decides.{nat_tests}
use Rattle.std.proofs.lemmas.Fmt.{digits_decimal, decimal_nonempty}
use Rattle.std.proofs.lemmas.List.{append-nil, length-append}
use Rattle.std.proofs.lemmas.List.Elements.{All-nil, All-cons, All-append}
use Rattle.std.proofs.lemmas.List.Splits.{slice_split_none, slice_split_at}
use Rattle.std.proofs.lemmas.Slice.Eq.{bytes_eq-Decides}
use Rattle.te_base.specs.Values.{Values, AreInRange, checked_values}
use Rattle.link_reload.specs.declared.entry.LinkReload.{LinkReload}
use Rattle.asks.specs.Words.{long_number_in}
use Rattle.line_words.specs.Words.{IsWord as IsWholeWord}
use Rattle.line_words.proofs.Again.{numerals, number_again, number_word as number_is_word, joined_word, ends}
use Rattle.step_lines.specs.Events.{more_links, path_text, offer_text, entry_words, more_entries, entries_words}
use Rattle.line_words.specs.Written.{number_word}
use Rattle.step_lines.specs.EventReading.{parts, is_link, links_in, offer_in, pieces, first_values, entry_at, entry_in, is_entry, entries_in}
use Rattle.line_words.specs.First.{is_nothing}
use Rattle.pcep_messages.specs.Normal.{IsWord}
use Rattle.step_lines.specs.Normal.{IsLong, IsEntry, MayBeLinks}
use Rattle.line_words.proofs.FirstWords.{cut_word, long_first}
use Rattle.line_words.specs.Joined.{◌+>◌}

-- ---- digits are no separators

abbrev IsNo : ℕ → ℕ → Type 0
IsNo separator b = (b == separator) ≡ false

abbrev HasNo : ℕ → List ℕ → Type 0
HasNo separator text = All (IsNo separator) text

no_digit : (separator : ℕ) → separator ≡ 44 → (ds : List ℕ) → all_ascii_digits ds ≡ true → HasNo separator ds
no_digit separator is [] h = All-nil (IsNo separator)
no_digit separator is (b ∷ ds) h =
    let both = and_parts (is_ascii_digit b) (all_ascii_digits ds) h in
    let other : (b == separator) ≡ false = grind (arith, nat_tests, both.0) in
    All-cons (IsNo separator) b ds other (no_digit separator is ds both.1)

no_semicolon : (ds : List ℕ) → all_ascii_digits ds ≡ true → HasNo 59 ds
no_semicolon [] h = All-nil (IsNo 59)
no_semicolon (b ∷ ds) h =
    let both = and_parts (is_ascii_digit b) (all_ascii_digits ds) h in
    let other : (b == 59) ≡ false = grind (arith, nat_tests, both.0) in
    All-cons (IsNo 59) b ds other (no_semicolon ds both.1)

no_comma_in : (n : ℕ) → IsLong n → HasNo 44 (decimal n)
no_comma_in n small = no_digit 44 refl (decimal n) (digits_decimal numerals n small)

-- a number isn't empty
some_text : (n : ℕ) (rest : List ℕ) → IsLong n → is_nothing (decimal n +> rest) ≡ false
some_text n rest small =
    let some : 0 < length (decimal n) = decimal_nonempty n small in
    let long : length (decimal n +> rest) ≡ length (decimal n) + length rest = length-append (decimal n) rest in
    grind (arith, nat_tests)

-- ---- the links of a path

split_links : (link : ℕ) (links : List ℕ) → IsLong link → AllByRecursion IsLong links → parts (decimal link +> more_links links) ≡ decimal link ∷ map decimal links
split_links link [] small are =
    ap parts (append-nil (decimal link)) ∙ slice_split_none (λ b. b == 44) (decimal link) (no_comma_in link small)
split_links link (next ∷ links) small are =
    slice_split_at (λ b. b == 44) (decimal link) 44 (decimal next +> more_links links) (no_comma_in link small) refl
    ∙ ap (λ (rest : List (List ℕ)). decimal link ∷ rest) (split_links next links are.0 are.1)

all_links : (links : List ℕ) → AllByRecursion IsLong links → list_all is_link (map decimal links) ≡ true
all_links [] are = refl
all_links (link ∷ links) are = rw (number_again 64 link are.0 are.0) (all_links links are.1)

each_link : (links : List ℕ) → AllByRecursion IsLong links → filter_map long_number_in (map decimal links) ≡ links
each_link [] are = refl
each_link (link ∷ links) are = rw (number_again 64 link are.0 are.0) (ap (λ (rest : List ℕ). link ∷ rest) (each_link links are.1))

pub links_again : (links : List ℕ) → AllByRecursion IsLong links → links_in (path_text links) ≡ Some links
unfolding links_in
links_again [] are = refl
links_again (link ∷ links) are =
    rw (some_text link (more_links links) are.0, split_links link links are.0 are.1, number_again 64 link are.0 are.0, all_links links are.1, each_link links are.1) refl

-- ---- `none`, or the links of a path

none_no_links : links_in (codes "none") ≡ None
unfolding links_in
none_no_links = refl

not_none : (word : List ℕ) (links : List ℕ) → links_in word ≡ Some links → bytes_eq word (codes "none") ≡ false
not_none word links is = by (bytes_eq word (codes "none")) (bytes_eq-Decides word (codes "none"))
  where
    by : (b : Bool) → Decides b (word ≡ codes "none") → b ≡ false
    by true same = absurd (let both : Some links ≡ None = sym is ∙ ap links_in (same.0 refl) ∙ none_no_links in cc)
    by false other = refl

more_word : (links : List ℕ) → AllByRecursion IsLong links → IsWholeWord (more_links links)
more_word [] are = refl
more_word (link ∷ links) are = joined_word (decimal link) (more_links links) (number_is_word link are.0) (more_word links are.1)

pub offer_word : (offer : Option (List ℕ)) → MayBeLinks offer → IsWholeWord (offer_text offer)
offer_word None are = refl
offer_word (Some []) are = refl
offer_word (Some (link ∷ links)) are = joined_word (decimal link) (more_links links) (number_is_word link are.0) (more_word links are.1)

pub offer_again : (offer : Option (List ℕ)) → MayBeLinks offer → offer_in (offer_text offer) ≡ Some offer
unfolding offer_in
offer_again None are = refl
offer_again (Some links) are = rw (not_none (path_text links) links (links_again links are), links_again links are) refl

-- ---- links and their values

pub values_again : (v : Values) (rest : List ℕ) → AreInRange v → IsWord v.colour → first_values (number_word v.igp +> number_word v.te +> number_word v.colour +> number_word v.reservable +> rest) ≡ Some (v, rest)
unfolding first_values checked_values
values_again v rest ranges colour =
    let igp_low : nat_le 1 v.igp ≡ true = grind (arith, nat_tests, ranges.igp_positive) in
    let igp_high : nat_le v.igp 16777215 ≡ true = grind (arith, nat_tests, ranges.igp_small) in
    let te_low : nat_le 1 v.te ≡ true = grind (arith, nat_tests, ranges.te_positive) in
    let te_high : nat_le v.te 16777215 ≡ true = grind (arith, nat_tests, ranges.te_small) in
    let coloured : nat_le v.colour 4294967295 ≡ true = grind (arith, nat_tests, colour) in
    let uncoloured : nat_le 0 v.colour ≡ true = grind (arith, nat_tests) in
    let most : nat_le v.reservable 281474976710655 ≡ true = grind (arith, nat_tests, ranges.reservable_small) in
    let least : nat_le 0 v.reservable ≡ true = grind (arith, nat_tests) in
    rw (
      long_first v.igp (number_word v.te +> number_word v.colour +> number_word v.reservable +> rest) (omega (arith, ranges.igp_small)),
      long_first v.te (number_word v.colour +> number_word v.reservable +> rest) (omega (arith, ranges.te_small)),
      long_first v.colour (number_word v.reservable +> rest) (omega (arith, colour)),
      long_first v.reservable rest (omega (arith, ranges.reservable_small)),
      igp_low,
      igp_high,
      te_low,
      te_high,
      uncoloured,
      coloured,
      least,
      most,
    )
    refl

values_last : (v : Values) → AreInRange v → IsWord v.colour → first_values (number_word v.igp +> number_word v.te +> number_word v.colour +> number_word v.reservable) ≡ Some (v, [])
values_last v ranges colour =
    ap (λ (last : List ℕ). first_values (number_word v.igp +> number_word v.te +> number_word v.colour +> last)) (sym (append-nil (number_word v.reservable))) ∙ values_again v [] ranges colour

entry_at_again : (entry : LinkReload) → IsEntry entry → entry_at (entry_words entry) ≡ Some entry
unfolding entry_at
entry_at_again entry is =
    let v = entry.values in
    rw (long_first entry.link (number_word v.igp +> number_word v.te +> number_word v.colour +> number_word v.reservable) is.link, values_last v is.ranges is.colour) refl

entry_again : (entry : LinkReload) → IsEntry entry → entry_in (entry_words entry) ≡ Some entry
unfolding entry_in
entry_again entry is =
    let v = entry.values in
    let some : is_nothing (decimal entry.link) ≡ false = ap is_nothing (sym (append-nil (decimal entry.link))) ∙ some_text entry.link [] is.link in
    rw (cut_word (decimal entry.link) (number_word v.igp +> number_word v.te +> number_word v.colour +> number_word v.reservable) (number_is_word entry.link is.link), some, entry_at_again entry is) refl

abbrev spaced : LinkReload → List ℕ
spaced entry = 32 ∷ entry_words entry

spaced_again : (entry : LinkReload) → IsEntry entry → entry_in (spaced entry) ≡ Some entry
unfolding entry_in
spaced_again entry is = rw (ends [] (entry_words entry) refl) (entry_at_again entry is)

number_has_none : (n : ℕ) → IsLong n → HasNo 59 (number_word n)
number_has_none n small = All-append (IsNo 59) (decimal n) (codes " ") (no_semicolon (decimal n) (digits_decimal numerals n small)) (All-cons (IsNo 59) 32 [] refl (All-nil (IsNo 59)))

entry_has_none : (entry : LinkReload) → IsEntry entry → HasNo 59 (entry_words entry)
entry_has_none entry is =
    let v = entry.values in
    let four = All-append (IsNo 59) (number_word v.colour) (number_word v.reservable) (number_has_none v.colour (omega (arith, is.colour))) (number_has_none v.reservable (omega (arith, is.ranges.reservable_small))) in
    let three = All-append (IsNo 59) (number_word v.te) (number_word v.colour +> number_word v.reservable) (number_has_none v.te (omega (arith, is.ranges.te_small))) four in
    let two = All-append (IsNo 59) (number_word v.igp) (number_word v.te +> number_word v.colour +> number_word v.reservable) (number_has_none v.igp (omega (arith, is.ranges.igp_small))) three in
    All-append (IsNo 59) (number_word entry.link) (number_word v.igp +> number_word v.te +> number_word v.colour +> number_word v.reservable) (number_has_none entry.link is.link) two

split_entries : (front : List ℕ) (entry : LinkReload) (entries : List LinkReload) → HasNo 59 front → IsEntry entry → AllByRecursion IsEntry entries
    → pieces (front +> entry_words entry +> more_entries entries) ≡ (front +> entry_words entry) ∷ map spaced entries
split_entries front entry [] none is are =
    ap (λ (text : List ℕ). pieces (front +> text)) (append-nil (entry_words entry))
    ∙ slice_split_none (λ b. b == 59) (front +> entry_words entry) (All-append (IsNo 59) front (entry_words entry) none (entry_has_none entry is))
split_entries front entry (next ∷ entries) none is are =
    ap pieces (sym (append_assoc front (entry_words entry) (59 ∷ 32 ∷ (entry_words next +> more_entries entries))))
    ∙ slice_split_at (λ b. b == 59) (front +> entry_words entry) 59 (32 ∷ (entry_words next +> more_entries entries)) (All-append (IsNo 59) front (entry_words entry) none (entry_has_none entry is)) refl
    ∙ ap (λ (rest : List (List ℕ)). (front +> entry_words entry) ∷ rest) (split_entries (32 ∷ []) next entries (All-cons (IsNo 59) 32 [] refl (All-nil (IsNo 59))) are.0 are.1)

all_spaced : (entries : List LinkReload) → AllByRecursion IsEntry entries → list_all is_entry (map spaced entries) ≡ true
all_spaced [] are = refl
all_spaced (entry ∷ entries) are = rw (spaced_again entry are.0) (all_spaced entries are.1)

each_spaced : (entries : List LinkReload) → AllByRecursion IsEntry entries → filter_map entry_in (map spaced entries) ≡ entries
each_spaced [] are = refl
each_spaced (entry ∷ entries) are = rw (spaced_again entry are.0) (ap (λ (rest : List LinkReload). entry ∷ rest) (each_spaced entries are.1))

some_entry : (entry : LinkReload) (rest : List ℕ) → IsEntry entry → is_nothing (entry_words entry +> rest) ≡ false
some_entry entry rest is =
    let v = entry.values in
    let behind = number_word v.igp +> number_word v.te +> number_word v.colour +> number_word v.reservable in
    ap is_nothing (append_assoc (number_word entry.link) behind rest ∙ append_assoc (decimal entry.link) (codes " ") (behind +> rest))
    ∙ some_text entry.link (codes " " +> (behind +> rest)) is.link

pub entries_again : (entries : List LinkReload) → AllByRecursion IsEntry entries → entries_in (entries_words entries) ≡ Some entries
unfolding entries_in
entries_again [] are = refl
entries_again (entry ∷ entries) are =
    rw (some_entry entry (more_entries entries) are.0, split_entries [] entry entries (All-nil (IsNo 59)) are.0 are.1, entry_again entry are.0, all_spaced entries are.1, each_spaced entries are.1) refl
