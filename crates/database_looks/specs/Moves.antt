-- LSPs with what a path search for each of them reads, all of one moment.
use Rattle.std.specs.Prelude.{List, length}
use Rattle.te_snapshot.specs.Own.{own_shares}
use Rattle.te_snapshot.specs.declared.own.OwnShare.{OwnShare}
use Rattle.step_core.specs.States.{State}
use Rattle.pce_seen.specs.declared.lsps.KnownLsp.{KnownLsp}

-- what the LSP's tunnel holds already, link by link, as the search of an update is given it
abbrev pub own_of : State → KnownLsp → List OwnShare
own_of s l = own_shares s.base.paths ((l.known).lsp).tunnel (length s.te.links)
