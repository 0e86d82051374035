use Rattle.std.proofs.Common.{◌≡◌, ◌<◌, ◌+◌, ◌*◌, ◌%◌, take, fold}
use Rattle.lsp_base.proofs.record_table.bucket_of_name.Given as goal

abbrev pub invariant-loop-byte : goal.invariant-loop-byte
invariant-loop-byte l = record {
  folded : l.bucket ≡ fold (λ bucket byte. (bucket * 31 + byte) % 16381) (l.peer % 16381) (take l.byte-index l.name);
  small : l.bucket < 16381;
}
