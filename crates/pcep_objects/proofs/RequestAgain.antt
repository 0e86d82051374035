-- The bodies of RP, NO-PATH and END-POINTS are read again from their spelling.
use Rattle.std.proofs.Common.{◌≡◌, ℕ, ◌+◌, ◌%◌, ◌^◌, ◌<◌, Bool, true, false, cond, [], Option, Some, None, Result, Ok, refl, ap, ◌∙◌, arith}
use Rattle.byteorder.specs.Endian.{big_bytes}
use Rattle.byteorder.specs.Numbers.{big_number-reads_back}
use Rattle.pcep_objects.specs.declared.fault.BodyFault.{BodyFault}
use Rattle.pcep_objects.specs.declared.request_objects.Rp.{Rp}
use Rattle.pcep_objects.specs.declared.request_objects.NoPath.{NoPath}
use Rattle.pcep_objects.specs.declared.request_objects.NoPathVector.{NoPathVector}
use Rattle.pcep_objects.specs.declared.request_objects.EndPoints.{EndPoints}
use Rattle.pcep_objects.specs.Steps.{field, has, cut}
use Rattle.pcep_objects.specs.Tlvs.{tlv_size, tlvs_in, skipped_tlvs, value_in, word_in}
use Rattle.pcep_objects.specs.RequestObjects.{rp_of, rp_flags, rp_written, IsRp, no_path_of, no_path_written, end_points_of, end_points_written, IsEndPoints}
use Rattle.pcep_objects.proofs.Flags.{bit_small, weight, has_bit}

-- ---- RP

abbrev asked : Bool → ℕ → ℕ → Result Rp BodyFault
asked p flags id = Ok (record { p = p; priority = flags % 2 ^ 3; reoptimize = has flags 0x08; bidirectional = has flags 0x10; loose = has flags 0x20; id = id })

rp_flags_again : (p : Bool) (priority : ℕ) (r b o : Bool) (id flags : ℕ) → priority < 8 → flags ≡ priority + cond r 8 0 + cond b 16 0 + cond o 32 0
    → asked p flags id ≡ Ok (record { p = p; priority = priority; reoptimize = r; bidirectional = b; loose = o; id = id })
rp_flags_again p priority r b o id flags small e =
    let er = weight r 8 in
    let eb = weight b 16 in
    let eo = weight o 32 in
    let sr = bit_small r in
    let sb = bit_small b in
    let so = bit_small o in
    let low : flags % 2 ^ 3 ≡ priority = omega arith in
    let fr : has flags (2 ^ 3) ≡ r = has_bit r 3 flags (omega arith) in
    let fb : has flags (2 ^ 4) ≡ b = has_bit b 4 flags (omega arith) in
    let fo : has flags (2 ^ 5) ≡ o = has_bit o 5 flags (omega arith) in
    rw (low, fr, fb, fo) refl

rp_flags_small : (object : Rp) → object.priority < 8 → rp_flags object < 2 ^ 32
rp_flags_small object small =
    let er = weight object.reoptimize 8 in
    let eb = weight object.bidirectional 16 in
    let eo = weight object.loose 32 in
    let sr = bit_small object.reoptimize in
    let sb = bit_small object.bidirectional in
    let so = bit_small object.loose in
    omega arith

pub rp_again : (object : Rp) → IsRp object → rp_of object.p (rp_written object) ≡ Ok object
unfolding rp_of skipped_tlvs tlvs_in cut
rp_again object normal =
    let flags : field 0 4 (rp_written object) ≡ rp_flags object = big_number-reads_back 4 (rp_flags object) (big_bytes 4 object.id) (rp_flags_small object normal.priority) in
    let id : field 4 4 (rp_written object) ≡ object.id = big_number-reads_back 4 object.id [] normal.id in
    ap (λ (n : ℕ). asked object.p n (field 4 4 (rp_written object))) flags
    ∙ ap (asked object.p (rp_flags object)) id
    ∙ rp_flags_again object.p object.priority object.reoptimize object.bidirectional object.loose object.id (rp_flags object) normal.priority refl

-- ---- NO-PATH

abbrev refused : ℕ → Bool → Option NoPathVector → NoPath
refused nature constraints vector = record { nature = nature; constraints = constraints; vector = vector }

abbrev why : Bool → Bool → Bool → NoPathVector
why unavailable destination source = record { pce_unavailable = unavailable; unknown_destination = destination; unknown_source = source }

vector_again : (n : ℕ) (c u d s : Bool) → no_path_of (no_path_written (refused n c (Some (why u d s)))) ≡ Ok (refused n c (Some (why u d s)))
unfolding no_path_of word_in value_in tlvs_in cut tlv_size
vector_again n true true true true = refl
vector_again n true true true false = refl
vector_again n true true false true = refl
vector_again n true true false false = refl
vector_again n true false true true = refl
vector_again n true false true false = refl
vector_again n true false false true = refl
vector_again n true false false false = refl
vector_again n false true true true = refl
vector_again n false true true false = refl
vector_again n false true false true = refl
vector_again n false true false false = refl
vector_again n false false true true = refl
vector_again n false false true false = refl
vector_again n false false false true = refl
vector_again n false false false false = refl

refused_again : (n : ℕ) (c : Bool) (vector : Option NoPathVector) → no_path_of (no_path_written (refused n c vector)) ≡ Ok (refused n c vector)
unfolding no_path_of word_in value_in tlvs_in cut
refused_again n true None = refl
refused_again n false None = refl
refused_again n c (Some v) = vector_again n c v.pce_unavailable v.unknown_destination v.unknown_source

pub no_path_again : (object : NoPath) → no_path_of (no_path_written object) ≡ Ok object
no_path_again object = refused_again object.nature object.constraints object.vector

-- ---- END-POINTS

abbrev between : Bool → ℕ → ℕ → Result EndPoints BodyFault
between p source destination = Ok (record { p = p; source = source; destination = destination })

pub end_points_again : (object : EndPoints) → IsEndPoints object → end_points_of object.p (end_points_written object) ≡ Ok object
unfolding end_points_of
end_points_again object normal =
    let source : field 0 4 (end_points_written object) ≡ object.source = big_number-reads_back 4 object.source (big_bytes 4 object.destination) normal.source in
    let destination : field 4 4 (end_points_written object) ≡ object.destination = big_number-reads_back 4 object.destination [] normal.destination in
    ap (λ (n : ℕ). between object.p n (field 4 4 (end_points_written object))) source ∙ ap (between object.p object.source) destination
