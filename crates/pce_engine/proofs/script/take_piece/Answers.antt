use Rattle.std.proofs.Common.{inl, refl}
use Rattle.pce_engine.proofs.script.take_piece.Goals as goal

pub returns-in-Err-clause-turns : goal.returns-in-Err-clause-turns
returns-in-Err-clause-turns g c = inl (c.in-Err.ensures.fault, c.in-Err.ensures.bytes, refl)
