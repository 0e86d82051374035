-- The bodies of BANDWIDTH, METRIC, LSPA and LSP are read again from their spelling.
use Rattle.std.proofs.Common.{◌≡◌, ℕ, ◌+◌, ◌*◌, ◌/◌, ◌%◌, ◌^◌, ◌≤◌, ◌<◌, Bool, true, false, cond, ltb, List, [], ◌∷◌, ◌++◌, length, min, Option, Some, Result, Ok, refl, ap, ◌∙◌, arith}
use Rattle.std.proofs.lemmas.Bool.{le-ltb}
use Rattle.byteorder.specs.Endian.{big_bytes}
use Rattle.byteorder.specs.Numbers.{big_number-reads_back}
use Rattle.pcep_word.specs.Word.{bound_of, word_of, IsBandwidth, IsBound}
use Rattle.pcep_word.proofs.Reading as word
use Rattle.pcep_objects.specs.declared.fault.BodyFault.{BodyFault}
use Rattle.pcep_objects.specs.declared.object.BandwidthType.{BandwidthType}
use Rattle.pcep_objects.specs.declared.object.Identifiers.{Identifiers}
use Rattle.pcep_objects.specs.declared.object.LspObject.{LspObject}
use Rattle.pcep_objects.specs.declared.object.Lspa.{Lspa}
use Rattle.pcep_objects.specs.declared.object.Metric.{Metric}
use Rattle.pcep_objects.specs.declared.object.Operational.{Operational}
use Rattle.pcep_objects.specs.declared.object.Operational.TheVariants.{Down, Up, Active, GoingDown, GoingUp}
use Rattle.pcep_objects.specs.declared.object.RsvpError.{RsvpError}
use Rattle.pcep_objects.specs.declared.object.Object.{Object}
use Rattle.pcep_objects.specs.declared.object.Object.TheVariants as objects
use Rattle.pcep_objects.specs.Steps.{field, has, cut}
use Rattle.pcep_objects.specs.Tlvs.{tlvs_in, skipped_tlvs}
use Rattle.pcep_objects.specs.Metrics.{metric_of, metric_written}
use Rattle.pcep_objects.specs.Bodies.{bandwidth_body, lspa_body, lsp_body, operational_of}
use Rattle.pcep_objects.specs.Spelling.{bandwidth_written, colours_written, lspa_written, IsLspa, operational_number, lsp_word, name_written, details_written, lsp_written, IsLsp}
use Rattle.pcep_objects.proofs.Flags.{bit_small, weight, has_bit}
use Rattle.pcep_objects.proofs.TlvAgain.{name_found, identifiers_found, code_found, error_found, identifiers_back, code_back, error_back}

-- ---- BANDWIDTH

pub bandwidth_again : (kind : BandwidthType) (bandwidth : ℕ) → IsBandwidth bandwidth → bandwidth_body kind (bandwidth_written bandwidth) ≡ Ok (objects.Bandwidth kind bandwidth)
unfolding bandwidth_body
bandwidth_again kind bandwidth good =
    let small = word.word_fits bandwidth good.reads.small in
    let w : field 0 4 (bandwidth_written bandwidth) ≡ word_of bandwidth = big_number-reads_back 4 (word_of bandwidth) [] (omega (arith, small)) in
    rw (w, word.bandwidth_written bandwidth good) refl

-- ---- METRIC

measured : Bool → Bool → ℕ → ℕ → Metric
measured bound computed kind value = record { bound = bound; computed = computed; metric_type = kind; value = value }

spelled_metric : (bound computed : Bool) (kind value : ℕ) → field 0 4 (big_bytes 4 (word_of value)) ≡ word_of value → bound_of (word_of value) ≡ Some value
    → metric_of (metric_written (measured bound computed kind value)) ≡ Ok (measured bound computed kind value)
unfolding metric_of measured
spelled_metric true true kind value w again = rw (w, again) refl
spelled_metric true false kind value w again = rw (w, again) refl
spelled_metric false true kind value w again = rw (w, again) refl
spelled_metric false false kind value w again = rw (w, again) refl

pub metric_again : (metric : Metric) → IsBound metric.value → metric_of (metric_written metric) ≡ Ok metric
unfolding measured
metric_again metric good =
    let small = word.word_fits metric.value (word.bound_small metric.value good) in
    let w : field 0 4 (big_bytes 4 (word_of metric.value)) ≡ word_of metric.value = big_number-reads_back 4 (word_of metric.value) [] (omega (arith, small)) in
    spelled_metric metric.bound metric.computed metric.metric_type metric.value w (word.bound_written metric.value good)

-- ---- LSPA

attributes : ℕ → ℕ → ℕ → ℕ → ℕ → Bool → Result Object BodyFault
attributes exclude_any include_any include_all setup hold protection = Ok (objects.Lspa (record {
  colours = record { exclude_any = exclude_any; include_any = include_any; include_all = include_all };
  setup = setup;
  hold = hold;
  local_protection = protection;
}))

protection_again : (b : Bool) → has (cond b 1 0) 0x01 ≡ b
protection_again true = refl
protection_again false = refl

pub lspa_again : (lspa : Lspa) → IsLspa lspa → lspa_body (lspa_written lspa) ≡ Ok (objects.Lspa lspa)
unfolding lspa_body skipped_tlvs tlvs_in cut attributes colours_written
lspa_again lspa good =
    let colours = lspa.colours in
    let ends = lspa.setup ∷ lspa.hold ∷ cond lspa.local_protection 1 0 ∷ 0 ∷ [] in
    let a : field 0 4 (lspa_written lspa) ≡ colours.exclude_any = big_number-reads_back 4 colours.exclude_any (big_bytes 4 colours.include_any ++ big_bytes 4 colours.include_all ++ ends) good.exclude_any in
    let b : field 4 4 (lspa_written lspa) ≡ colours.include_any = big_number-reads_back 4 colours.include_any (big_bytes 4 colours.include_all ++ ends) good.include_any in
    let c : field 8 4 (lspa_written lspa) ≡ colours.include_all = big_number-reads_back 4 colours.include_all ends good.include_all in
    let s : min lspa.setup 7 ≡ lspa.setup = omega (arith, good.setup) in
    let h : min lspa.hold 7 ≡ lspa.hold = omega (arith, good.hold) in
    ap (λ (x : ℕ). attributes x (field 4 4 (lspa_written lspa)) (field 8 4 (lspa_written lspa)) (min lspa.setup 7) (min lspa.hold 7) (has (cond lspa.local_protection 1 0) 1)) a
    ∙ ap (λ (x : ℕ). attributes colours.exclude_any x (field 8 4 (lspa_written lspa)) (min lspa.setup 7) (min lspa.hold 7) (has (cond lspa.local_protection 1 0) 1)) b
    ∙ ap (λ (x : ℕ). attributes colours.exclude_any colours.include_any x (min lspa.setup 7) (min lspa.hold 7) (has (cond lspa.local_protection 1 0) 1)) c
    ∙ rw (s, h, protection_again lspa.local_protection) refl

-- ---- LSP

known : ℕ → Bool → Bool → Bool → Bool → Operational → Bool → Option (List ℕ) → Option Identifiers → Option ℕ → Option RsvpError → Result Object BodyFault
known plsp delegate sync remove admin operational created name identifiers error_code rsvp_error = Ok (objects.Lsp (record {
  plsp = plsp;
  delegate = delegate;
  sync = sync;
  remove = remove;
  admin = admin;
  operational = operational;
  created = created;
  name = name;
  identifiers = identifiers;
  error_code = error_code;
  rsvp_error = rsvp_error;
}))

operational_small : (operational : Operational) → operational_number operational ≤ 4
operational_small Down = omega arith
operational_small Up = omega arith
operational_small Active = omega arith
operational_small GoingDown = omega arith
operational_small GoingUp = omega arith

operational_again : (operational : Operational) (word : ℕ) → word / 2 ^ 4 % 8 ≡ operational_number operational → operational_of word ≡ operational
operational_again Down word e = rw e refl
operational_again Up word e = rw e refl
operational_again Active word e = rw e refl
operational_again GoingDown word e = rw e refl
operational_again GoingUp word e = rw e refl

flags_again : (plsp : ℕ) (d s r a c : Bool) (o : Operational) (name : Option (List ℕ)) (ids : Option Identifiers) (code : Option ℕ) (error : Option RsvpError) (n : ℕ)
    → n ≡ plsp * 2 ^ 12 + cond d 0x001 0 + cond s 0x002 0 + cond r 0x004 0 + cond a 0x008 0 + operational_number o * 0x010 + cond c 0x080 0
    → known (n / 2 ^ 12) (has n (2 ^ 0)) (has n (2 ^ 1)) (has n (2 ^ 2)) (has n (2 ^ 3)) (operational_of n) (has n (2 ^ 7)) name ids code error ≡ known plsp d s r a o c name ids code error
flags_again plsp d s r a c o name ids code error n e =
    let wd = weight d 1 in
    let ws = weight s 2 in
    let wr = weight r 4 in
    let wa = weight a 8 in
    let wc = weight c 128 in
    let bd = bit_small d in
    let bs = bit_small s in
    let br = bit_small r in
    let ba = bit_small a in
    let bc = bit_small c in
    let bo = operational_small o in
    let p : n / 2 ^ 12 ≡ plsp = omega arith in
    let fd : has n (2 ^ 0) ≡ d = has_bit d 0 n (omega arith) in
    let fs : has n (2 ^ 1) ≡ s = has_bit s 1 n (omega arith) in
    let fr : has n (2 ^ 2) ≡ r = has_bit r 2 n (omega arith) in
    let fa : has n (2 ^ 3) ≡ a = has_bit a 3 n (omega arith) in
    let fc : has n (2 ^ 7) ≡ c = has_bit c 7 n (omega arith) in
    let fo : operational_of n ≡ o = operational_again o n (omega arith) in
    rw (p, fd, fs, fr, fa, fc, fo) refl

word_small : (lsp : LspObject) → lsp.plsp < 2 ^ 20 → lsp_word lsp < 2 ^ 32
word_small lsp small =
    let wd = weight lsp.delegate 1 in
    let ws = weight lsp.sync 2 in
    let wr = weight lsp.remove 4 in
    let wa = weight lsp.admin 8 in
    let wc = weight lsp.created 128 in
    let bd = bit_small lsp.delegate in
    let bs = bit_small lsp.sync in
    let br = bit_small lsp.remove in
    let ba = bit_small lsp.admin in
    let bc = bit_small lsp.created in
    let bo = operational_small lsp.operational in
    omega arith

pub lsp_again : (lsp : LspObject) → IsLsp lsp → length (name_written lsp.name) < 2 ^ 16 → lsp_body (lsp_written lsp) ≡ Ok (objects.Lsp lsp)
unfolding lsp_body known
lsp_again lsp good fits =
    let ids = lsp.identifiers in
    let code = lsp.error_code in
    let error = lsp.rsvp_error in
    let w : field 0 4 (lsp_written lsp) ≡ lsp_word lsp = big_number-reads_back 4 (lsp_word lsp) (name_written lsp.name ++ details_written ids code error) (word_small lsp good.plsp) in
    let four : ltb (length (lsp_written lsp)) 4 ≡ false = le-ltb _ _ (omega arith) in
    rw (four, w, identifiers_found lsp.name ids code error fits, name_found lsp.name ids code error fits, code_found lsp.name ids code error fits, error_found lsp.name ids code error fits)
    (rw (identifiers_back ids good.identifiers, code_back code good.error_code, error_back error good.rsvp_error)
    (flags_again lsp.plsp lsp.delegate lsp.sync lsp.remove lsp.admin lsp.created lsp.operational lsp.name ids code error (lsp_word lsp) refl))
