-- The steps by which a reader takes in the objects of a message of one item, one after the other. No public clause
-- cites them: a lemma shows that they give the parts of the objects (Parts).
use Rattle.std.specs.Prelude.{◌≡◌, Option, Some, None, Result, Ok, Err}
use Rattle.std.specs.Option.{option_or}
use Rattle.pcep_objects.specs.declared.fault.BodyFault.{BodyFault}
use Rattle.pcep_objects.specs.declared.fault.ObjectFault.{ObjectFault}
use Rattle.pcep_objects.specs.declared.object.Object.{Object}
use Rattle.pcep_objects.specs.declared.object.Object.TheVariants as objects
use Rattle.pcep_messages.specs.Counting.{requested_of, greater_of}
use Rattle.pcep_messages.specs.Objects.{Found}
use Rattle.pcep_messages.specs.Parts as all
use Rattle.pcep_messages.specs.declared.parts.Parts.{Parts}

abbrev pub no_parts : Parts
no_parts = record {
  opening = None;
  rp = None;
  no_path = None;
  end_points = None;
  bandwidth = None;
  metric = None;
  ero = None;
  lspa = None;
  close = None;
  lsp = None;
  srp = None;
}

-- the parts with one more object
abbrev pub and_then : Parts → Object → Parts
and_then parts (objects.Open object) = record parts { opening = option_or parts.opening (Some object) }
and_then parts (objects.Rp object) = record parts { rp = option_or parts.rp (Some object) }
and_then parts (objects.NoPath object) = record parts { no_path = option_or parts.no_path (Some object) }
and_then parts (objects.EndPoints object) = record parts { end_points = option_or parts.end_points (Some object) }
and_then parts (objects.Bandwidth kind bandwidth) = record parts { bandwidth = greater_of parts.bandwidth (requested_of (objects.Bandwidth kind bandwidth)) }
and_then parts (objects.Metric object) = record parts { metric = option_or parts.metric (Some object) }
and_then parts (objects.Ero hops) = record parts { ero = option_or parts.ero (Some hops) }
and_then parts (objects.Lspa object) = record parts { lspa = option_or parts.lspa (Some object) }
and_then parts (objects.Close object) = record parts { close = option_or parts.close (Some object) }
and_then parts (objects.Lsp object) = record parts { lsp = option_or parts.lsp (Some object) }
and_then parts (objects.Srp object) = record parts { srp = option_or parts.srp (Some object) }
and_then parts object = parts

-- the parts with the object of a body, unless the body has a fault
abbrev pub joined : Result Object BodyFault → Parts → Result Parts BodyFault
joined (Ok object) parts = Ok (and_then parts object)
joined (Err fault) parts = Err fault

-- the parts that a reader keeps, as those of the definitions
abbrev pub kept : Parts → all.Parts
kept parts = record {
  opening = parts.opening;
  rp = parts.rp;
  no_path = parts.no_path;
  end_points = parts.end_points;
  bandwidth = parts.bandwidth;
  metric = parts.metric;
  ero = parts.ero;
  lspa = parts.lspa;
  close = parts.close;
  lsp = parts.lsp;
  srp = parts.srp;
}

-- the parts of the objects up to the first that has a fault of its own, and that fault
abbrev pub ArePartsOf : Found → Parts → Option ObjectFault → Type 0
ArePartsOf found parts fault = (all.parts_of found.objects ≡ kept parts) × (found.fault ≡ fault)
