-- Before the first item nothing of one has been read, whatever objects were taken in.
use Rattle.std.proofs.Common.{◌≡◌, List, Result, Ok, Err, subst, ap}
use Rattle.std.specs.Prelude.{Some}
use Rattle.std.specs.Option.{option_or}
use Rattle.pcep_objects.specs.declared.fault.BodyFault.{BodyFault}
use Rattle.pcep_objects.specs.declared.object.LspObject.{LspObject}
use Rattle.pcep_objects.specs.declared.object.Object.{Object}
use Rattle.pcep_objects.specs.declared.object.Object.TheVariants as objects
use Rattle.pcep_messages.specs.ObjectSteps.{taken_by}
use Rattle.pcep_messages.specs.ReportSteps.{State, IsEmptyInFront, inside, started, ended, begun_by_srp, begun_by_lsp, after_lsp, after}
use Rattle.pcep_messages.specs.declared.fault.MessageFault.{MessageFault}
use Rattle.pcep_messages.specs.declared.items.Item.{Item}
use Rattle.pcep_messages.specs.declared.items.ItemPosition.{ItemPosition}
use Rattle.pcep_messages.specs.declared.items.ItemPosition.TheVariants.{InFront, BehindSrp, Within}
use Rattle.pcep_messages.specs.declared.message.StateReport.{StateReport}

behind : (p : ItemPosition) (item : Item) → p ≡ BehindSrp → IsEmptyInFront p item
behind InFront item is = (cc)
behind BehindSrp item is = tt
behind Within item is = tt

within : (p : ItemPosition) (item : Item) → p ≡ Within → IsEmptyInFront p item
within InFront item is = (cc)
within BehindSrp item is = tt
within Within item is = tt

at_start : (p : ItemPosition) (item : Item) (before : Result (List StateReport) MessageFault) (t : State) → started p item before ≡ Ok t → t.place ≡ p
at_start p item (Ok reports) t took = let is : t ≡ record { reports = reports; item = item; place = p } = cc in ap (λ (u : State). u.place) is
at_start p item (Err fault) t took = (cc)

at_inside : (p : ItemPosition) (reports : List StateReport) (item : Item) (t : State) → inside p reports item ≡ Ok t → t.place ≡ Within
at_inside InFront reports item t took = (cc)
at_inside BehindSrp reports item t took = let is : t ≡ record { reports = reports; item = item; place = Within } = cc in ap (λ (u : State). u.place) is
at_inside Within reports item t took = let is : t ≡ record { reports = reports; item = item; place = Within } = cc in ap (λ (u : State). u.place) is

abbrev okay : State → Result State MessageFault
okay s = Ok s

placed : (s t : State) → okay s ≡ okay t → t.place ≡ s.place
placed s t took = let is : t ≡ s = cc in ap (λ (u : State). u.place) is

at_lsp : (p : ItemPosition) (lsp : LspObject) (s t : State) → after_lsp p lsp s ≡ Ok t → t.place ≡ Within
at_lsp InFront lsp s t took = at_start Within (begun_by_lsp lsp) (ended InFront s.reports s.item) t took
at_lsp BehindSrp lsp s t took = placed (record { reports = s.reports; item = record s.item { lsp = option_or s.item.lsp (Some lsp) }; place = Within }) t took
at_lsp Within lsp s t took = at_start Within (begun_by_lsp lsp) (ended Within s.reports s.item) t took

same : (s t : State) → okay s ≡ okay t → IsEmptyInFront s.place s.item → IsEmptyInFront t.place t.item
same s t took empty = let is : s ≡ t = cc in subst (λ (u : State). IsEmptyInFront u.place u.item) is empty

stays_empty : (object : Object) (s t : State) → after object s ≡ Ok t → IsEmptyInFront s.place s.item → IsEmptyInFront t.place t.item
stays_empty (objects.Srp srp) s t took empty = behind t.place t.item (at_start BehindSrp (begun_by_srp srp) (ended s.place s.reports s.item) t took)
stays_empty (objects.Lsp lsp) s t took empty = within t.place t.item (at_lsp s.place lsp s t took)
stays_empty (objects.Ero hops) s t took empty = within t.place t.item (at_inside s.place s.reports _ t took)
stays_empty (objects.Rro hops) s t took empty = within t.place t.item (at_inside s.place s.reports _ t took)
stays_empty (objects.Lspa lspa) s t took empty = within t.place t.item (at_inside s.place s.reports _ t took)
stays_empty (objects.Bandwidth kind bandwidth) s t took empty = within t.place t.item (at_inside s.place s.reports _ t took)
stays_empty (objects.Open x) s t took empty = same s t took empty
stays_empty (objects.Rp x) s t took empty = same s t took empty
stays_empty (objects.NoPath x) s t took empty = same s t took empty
stays_empty (objects.EndPoints x) s t took empty = same s t took empty
stays_empty (objects.Metric x) s t took empty = same s t took empty
stays_empty (objects.Kept x) s t took empty = same s t took empty
stays_empty (objects.Notification x) s t took empty = same s t took empty
stays_empty (objects.Error x) s t took empty = same s t took empty
stays_empty (objects.Close x) s t took empty = same s t took empty

pub empty_after : (read : Result Object BodyFault) (s t : State) → taken_by after read s ≡ Ok t → IsEmptyInFront s.place s.item → IsEmptyInFront t.place t.item
empty_after (Ok object) s t took empty = stays_empty object s t took empty
empty_after (Err fault) s t took empty = (cc)
