-- The parts of a message that has one item: what counts of its objects.
use Rattle.std.specs.Prelude.{ℕ, List, Option, Some, None, Result, Err}
use Rattle.pcep_objects.specs.declared.fault.ObjectFault.{ObjectFault}
use Rattle.lsp_words.specs.declared.object.Hop.{Hop}
use Rattle.pcep_objects.specs.declared.object.LspObject.{LspObject}
use Rattle.pcep_objects.specs.declared.object.Lspa.{Lspa}
use Rattle.pcep_objects.specs.declared.object.Metric.{Metric}
use Rattle.pcep_objects.specs.declared.object.Object.{Object}
use Rattle.pcep_objects.specs.declared.object.Srp.{Srp}
use Rattle.pcep_objects.specs.declared.request_objects.EndPoints.{EndPoints}
use Rattle.pcep_objects.specs.declared.request_objects.NoPath.{NoPath}
use Rattle.pcep_objects.specs.declared.request_objects.Rp.{Rp}
use Rattle.pcep_objects.specs.declared.session_objects.Close.{Close}
use Rattle.pcep_objects.specs.declared.session_objects.Open.{Open}
use Rattle.pcep_messages.specs.Counting.{first_of, opening_of, rp_of, no_path_of, end_points_of, metric_of, ero_of, lspa_of, close_of, lsp_of, srp_of, greatest_requested}
use Rattle.pcep_messages.specs.Objects.{Found}
use Rattle.pcep_messages.specs.declared.fault.About.{About}
use Rattle.pcep_messages.specs.declared.fault.MessageFault.{MessageFault}
use Rattle.pcep_messages.specs.declared.fault.MessageFault.TheVariants.{BadObject}

pub record Parts : Type 0 where
  pub opening : Option Open
  pub rp : Option Rp
  pub no_path : Option NoPath
  pub end_points : Option EndPoints
  pub bandwidth : Option ℕ
  pub metric : Option Metric
  pub ero : Option (List Hop)
  pub lspa : Option Lspa
  pub close : Option Close
  pub lsp : Option LspObject
  pub srp : Option Srp

-- the first object of each class, and the greatest BANDWIDTH of type 1; objects of other classes are skipped
unfoldable pub parts_of : List Object → Parts
parts_of objects = record {
  opening = first_of opening_of objects;
  rp = first_of rp_of objects;
  no_path = first_of no_path_of objects;
  end_points = first_of end_points_of objects;
  bandwidth = greatest_requested objects;
  metric = first_of metric_of objects;
  ero = first_of ero_of objects;
  lspa = first_of lspa_of objects;
  close = first_of close_of objects;
  lsp = first_of lsp_of objects;
  srp = first_of srp_of objects;
}

-- an object's own fault comes before any fault of the parts
abbrev pub unless_bad : {A : Type 0} → Option ObjectFault → About → Result A MessageFault → Result A MessageFault
unless_bad None about read = read
unless_bad (Some fault) about read = Err (BadObject fault about)

-- What a body with these objects reads as. `about` says what a fault is about, given the parts.
abbrev pub read_parts : {A : Type 0} → (Parts → About) → (Parts → Result A MessageFault) → Found → Result A MessageFault
read_parts about read found = unless_bad found.fault (about (parts_of found.objects)) (read (parts_of found.objects))
