-- A report is read again from the objects that it is written as.
use Rattle.std.proofs.Common.{◌≡◌, ℕ, ◌+◌, ◌^◌, ◌==◌, ◌&&◌, not, Bool, true, false, List, [], ◌∷◌, ◌++◌, length, Option, Some, None, is_none, Result, Ok, if◌then◌else◌, ltb, refl, ap, ◌∙◌, arith}
use Rattle.std.specs.Option.{unwrap_or}
use Rattle.std.proofs.lemmas.Bool.{and_parts, ltb-true}
use Rattle.std.proofs.lemmas.Bool.Decides.{nat_tests}
use Rattle.pcep_word.specs.Priority.{InForce}
use Rattle.lsp_words.specs.declared.object.Colours.{Colours}
use Rattle.lsp_words.specs.declared.object.Hop.{Hop}
use Rattle.pcep_objects.specs.Steps.{◌>>=◌}
use Rattle.pcep_objects.specs.declared.object.BandwidthType.TheVariants.{Requested}
use Rattle.pcep_objects.specs.declared.object.LspObject.{LspObject}
use Rattle.pcep_objects.specs.declared.object.Lspa.{Lspa}
use Rattle.pcep_objects.specs.declared.object.Object.{Object}
use Rattle.pcep_objects.specs.declared.object.Object.TheVariants as objects
use Rattle.pcep_objects.specs.declared.object.Srp.{Srp}
use Rattle.pcep_messages.specs.Items.{named_in}
use Rattle.pcep_messages.specs.Messages.{Reads, report_message}
use Rattle.pcep_messages.specs.Objects.{Found, found_in}
use Rattle.pcep_messages.specs.Reports.{srp_id, priorities_of, colours_of, is_protected, report_or_fault, reports_in, report_body}
use Rattle.pcep_messages.specs.Spelling.{srp_object, objects_spelled, objects_fit}
use Rattle.pcep_messages.specs.declared.fault.MessageFault.{MessageFault}
use Rattle.pcep_messages.specs.declared.message.Message.{Message}
use Rattle.pcep_messages.specs.declared.message.Message.TheVariants as messages
use Rattle.pcep_messages.specs.declared.message.StateReport.{StateReport}
use Rattle.pcep_messages.proofs.Spelled.{all_good, found_again, whole, message_again}
use Rattle.item_messages.specs.Objects.{if_any, lspa_of, bandwidth_of}
use Rattle.item_messages.specs.Reports.{lsp_of, intended, start_objects, route_objects, report_objects, report_written, report_fits, MayBeSrp, MayBeHops, IsReport}
use Rattle.item_messages.proofs.WishesAgain.{says, flow, flow_again, AreNormal, both_normal, wishes_normal}

-- ---- the one item of the objects

abbrev objects_of : Option ℕ → LspObject → Option (List Hop) → Option (List Hop) → Option Lspa → Option ℕ → List Object
objects_of srp lsp ero rro lspa bandwidth =
    (if_any (srp_object false) srp ++ objects.Lsp lsp ∷ []) ++ (if_any (λ hops. objects.Ero hops) ero ++ if_any (λ hops. objects.Rro hops) rro)
    ++ (if_any (λ lspa. objects.Lspa lspa) lspa ++ if_any (λ b. objects.Bandwidth Requested b) bandwidth)

abbrev srp_of : Option ℕ → Option Srp
srp_of None = None
srp_of (Some id) = Some (record { remove = false; id = id })

abbrev alone : Result StateReport MessageFault → Result (List StateReport) MessageFault
alone read = read >>= λ report. Ok (report ∷ [])

-- each object that is there is found, and no other
one_item : (srp : Option ℕ) (lsp : LspObject) (ero rro : Option (List Hop)) (lspa : Option Lspa) (bandwidth : Option ℕ)
    → reports_in (named_in (objects_of srp lsp ero rro lspa bandwidth)) None ≡ alone (report_or_fault (srp_of srp) (Some lsp) ero rro lspa (flow bandwidth))
one_item None lsp None None None None = refl
one_item None lsp None None None (Some bandwidth) = refl
one_item None lsp None None (Some lspa) None = refl
one_item None lsp None None (Some lspa) (Some bandwidth) = refl
one_item None lsp None (Some rro) None None = refl
one_item None lsp None (Some rro) None (Some bandwidth) = refl
one_item None lsp None (Some rro) (Some lspa) None = refl
one_item None lsp None (Some rro) (Some lspa) (Some bandwidth) = refl
one_item None lsp (Some ero) None None None = refl
one_item None lsp (Some ero) None None (Some bandwidth) = refl
one_item None lsp (Some ero) None (Some lspa) None = refl
one_item None lsp (Some ero) None (Some lspa) (Some bandwidth) = refl
one_item None lsp (Some ero) (Some rro) None None = refl
one_item None lsp (Some ero) (Some rro) None (Some bandwidth) = refl
one_item None lsp (Some ero) (Some rro) (Some lspa) None = refl
one_item None lsp (Some ero) (Some rro) (Some lspa) (Some bandwidth) = refl
one_item (Some id) lsp None None None None = refl
one_item (Some id) lsp None None None (Some bandwidth) = refl
one_item (Some id) lsp None None (Some lspa) None = refl
one_item (Some id) lsp None None (Some lspa) (Some bandwidth) = refl
one_item (Some id) lsp None (Some rro) None None = refl
one_item (Some id) lsp None (Some rro) None (Some bandwidth) = refl
one_item (Some id) lsp None (Some rro) (Some lspa) None = refl
one_item (Some id) lsp None (Some rro) (Some lspa) (Some bandwidth) = refl
one_item (Some id) lsp (Some ero) None None None = refl
one_item (Some id) lsp (Some ero) None None (Some bandwidth) = refl
one_item (Some id) lsp (Some ero) None (Some lspa) None = refl
one_item (Some id) lsp (Some ero) None (Some lspa) (Some bandwidth) = refl
one_item (Some id) lsp (Some ero) (Some rro) None None = refl
one_item (Some id) lsp (Some ero) (Some rro) None (Some bandwidth) = refl
one_item (Some id) lsp (Some ero) (Some rro) (Some lspa) None = refl
one_item (Some id) lsp (Some ero) (Some rro) (Some lspa) (Some bandwidth) = refl

-- ---- what it says

srp_again : (srp : Option ℕ) → MayBeSrp srp → srp_id (srp_of srp) ≡ srp
srp_again None is = refl
srp_again (Some id) is = let other : (id == 0) ≡ false = grind (arith, nat_tests, is.0) in rw other refl

not_missing : (remove : Bool) (hops : List Hop) → (is_none (intended remove hops) && not remove) ≡ false
not_missing false hops = refl
not_missing true [] = refl
not_missing true (hop ∷ hops) = let some : (length (hop ∷ hops) == 0) ≡ false = grind (arith, nat_tests) in rw some refl

hops_again : (remove : Bool) (hops : List Hop) → unwrap_or (intended remove hops) [] ≡ hops
hops_again false hops = refl
hops_again true [] = refl
hops_again true (hop ∷ hops) = let some : (length (hop ∷ hops) == 0) ≡ false = grind (arith, nat_tests) in rw some refl

abbrev rebuilt : StateReport → Option ℕ → List Hop → ℕ → InForce → Colours → Bool → StateReport
rebuilt r srp ero bandwidth priorities colours protected = record r { srp = srp; ero = ero; bandwidth = bandwidth; priorities = priorities; colours = colours; local_protection = protected }

same_report : (r : StateReport) (srp : Option ℕ) (ero : List Hop) (bandwidth : ℕ) (priorities : InForce) (colours : Colours) (protected : Bool)
    → srp ≡ r.srp → ero ≡ r.ero → bandwidth ≡ r.bandwidth → priorities ≡ r.priorities → colours ≡ r.colours → protected ≡ r.local_protection
    → rebuilt r srp ero bandwidth priorities colours protected ≡ r
same_report r srp ero bandwidth priorities colours protected a b c d e f =
    ap (λ (x : Option ℕ). rebuilt r x ero bandwidth priorities colours protected) a
    ∙ ap (λ (x : List Hop). rebuilt r r.srp x bandwidth priorities colours protected) b
    ∙ ap (λ (x : ℕ). rebuilt r r.srp r.ero x priorities colours protected) c
    ∙ ap (λ (x : InForce). rebuilt r r.srp r.ero r.bandwidth x colours protected) d
    ∙ ap (λ (x : Colours). rebuilt r r.srp r.ero r.bandwidth r.priorities x protected) e
    ∙ ap (λ (x : Bool). rebuilt r r.srp r.ero r.bandwidth r.priorities r.colours x) f

-- what the reader takes of the LSPA
abbrev wished : StateReport → Option Lspa
wished r = lspa_of r.priorities r.colours r.local_protection

item_again : (r : StateReport) → IsReport r → report_or_fault (srp_of r.srp) (Some (lsp_of r)) (intended r.remove r.ero) r.rro (wished r) (flow (bandwidth_of r.bandwidth)) ≡ Ok r
item_again r is =
    let s = says r.priorities r.colours r.local_protection is.priorities.hold in
    let same = same_report r (srp_id (srp_of r.srp)) (unwrap_or (intended r.remove r.ero) []) (flow (bandwidth_of r.bandwidth)) (priorities_of (wished r)) (colours_of (wished r)) (is_protected (wished r))
    (srp_again r.srp is.srp) (hops_again r.remove r.ero) (flow_again r.bandwidth) s.same_priorities s.same_colours s.same_protected in
    rw (is.named, not_missing r.remove r.ero) (ap (λ (x : StateReport). Ok x) same)

-- ---- the objects are normal

srp_normal : (srp : Option ℕ) → MayBeSrp srp → AreNormal (if_any (srp_object false) srp)
srp_normal None is = tt
srp_normal (Some id) is = (is.1, tt)

intended_normal : (t : Bool) (hops : List Hop) → AreNormal (objects.Ero hops ∷ []) → AreNormal (if_any (λ hops. objects.Ero hops) (if t then None else Some hops))
intended_normal true hops is = tt
intended_normal false hops is = is

taken_normal : (rro : Option (List Hop)) → MayBeHops rro → AreNormal (if_any (λ hops. objects.Rro hops) rro)
taken_normal None is = tt
taken_normal (Some hops) is = (is, tt)

objects_normal : (r : StateReport) → IsReport r → AreNormal (report_objects r)
objects_normal r is =
    let lsp : AreNormal (objects.Lsp (lsp_of r) ∷ []) = (record { plsp = is.plsp; identifiers = is.identifiers; error_code = is.error_code; rsvp_error = is.rsvp_error }, tt) in
    let start = both_normal (if_any (srp_object false) r.srp) (objects.Lsp (lsp_of r) ∷ []) (srp_normal r.srp is.srp) lsp in
    let routes = both_normal (if_any (λ hops. objects.Ero hops) (intended r.remove r.ero)) (if_any (λ hops. objects.Rro hops) r.rro) (intended_normal (r.remove && length r.ero == 0) r.ero (is.ero, tt)) (taken_normal r.rro is.rro) in
    let wishes = wishes_normal r.priorities r.colours r.local_protection r.bandwidth is.priorities is.exclude_any is.include_any is.include_all is.bandwidth in
    both_normal (start_objects r ++ route_objects r) _ (both_normal (start_objects r) (route_objects r) start routes) wishes

-- ---- the message

abbrev read_from : Found → Result Message MessageFault
read_from found = reports_in (named_in found.objects) found.fault >>= λ reports. Ok (messages.Report reports)

body_again : (r : StateReport) → IsReport r → found_in (objects_spelled (report_objects r)) ≡ record { objects = report_objects r; fault = None } → report_message (objects_spelled (report_objects r)) ≡ Ok (messages.Report (r ∷ []))
unfolding report_body
body_again r is found =
    ap read_from found
    ∙ ap (λ (read : Result (List StateReport) MessageFault). read >>= λ reports. Ok (messages.Report reports)) (one_item r.srp (lsp_of r) (intended r.remove r.ero) r.rro (wished r) (bandwidth_of r.bandwidth))
    ∙ ap (λ (read : Result StateReport MessageFault). alone read >>= λ reports. Ok (messages.Report reports)) (item_again r is)

pub again : (r : StateReport) → IsReport r → report_fits r ≡ true → Reads (report_written r) (messages.Report (r ∷ []))
unfolding report_written report_fits
again r is fit =
    let each = objects_normal r is in
    let body = objects_spelled (report_objects r) in
    let parts = and_parts (objects_fit (report_objects r)) (ltb (length body + 4) (2 ^ 16)) fit in
    message_again 10 body (ltb-true _ _ parts.1) (whole (report_objects r) each)
    ∙ body_again r is (found_again (report_objects r) (all_good (report_objects r) each parts.0))
