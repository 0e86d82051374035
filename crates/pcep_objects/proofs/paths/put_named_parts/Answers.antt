use Rattle.std.proofs.Common.{◌≡◌, ◌++◌, false}
use Rattle.byteorder.specs.Endian.{big_bytes}
use Rattle.pcep_objects.specs.Spelling.{spelled, lsp_word, tlv_written, details_written}
use Rattle.pcep_objects.proofs.Fronts.{on_ok, lsp_parts}
use Rattle.pcep_objects.proofs.paths.put_named_parts.Goals as goal

pub returns-clause-written : goal.returns-clause-written
returns-clause-written c =
    let old = c.args.out.now.items in
    let two = c.put_tlv.new.out.items in
    let new = c.put_details.new.out.items in
    let word = lsp_word c.args.lsp.now in
    let tlv = tlv_written 17 c.args.name.now in
    let lsp = c.args.lsp.now in
    let details = details_written lsp.identifiers lsp.error_code lsp.rsvp_error in
    on_ok c.put_details.result (new ≡ two ++ details) (new ≡ old ++ spelled 32 1 false (big_bytes 4 word ++ tlv ++ details))
    (lsp_parts old c.put_start.new.out.items two new c.args.size word tlv details c.requires.whole c.in_ok-put_start.ensures.written c.in_ok-put_tlv.ensures.written)
    c.put_details.ensures.written
