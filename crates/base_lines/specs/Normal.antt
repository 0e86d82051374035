-- Bases of which each field is one that its type keeps, so that their lines read as them.
use Rattle.std.specs.Prelude.{ℕ, ◌≡◌, ◌^◌, ◌<◌, ◌≤◌, true, List, [], length}
use Rattle.std.specs.List.{AllByRecursion}
use Rattle.hex.specs.Hex.{IsBytes}
use Rattle.pcep_word.specs.Word.{IsBandwidth}
use Rattle.lsp_words.specs.declared.object.Colours.{Colours}
use Rattle.pcep_messages.specs.Normal.{IsNormal, IsWord, ArePriorities}
use Rattle.pcep_messages.specs.Spelling.{written}
use Rattle.pcep_messages.specs.declared.message.Message.{Message}
use Rattle.te_base.specs.Values.{Values, AreInRange}
use Rattle.lsp_base.specs.declared.lsp.Constraints.{Constraints}
use Rattle.lsp_base.specs.declared.lsp.Lsp.{Lsp}
use Rattle.lsp_base.specs.declared.path.Path.{Path}
use Rattle.lsp_base.specs.declared.effect.Record.{Record}
use Rattle.lsp_base.specs.declared.tunnel.Part.{Part}
use Rattle.lsp_base.specs.declared.tunnel.Part.TheVariants as part
use Rattle.lsp_base.specs.declared.tunnel.Tunnel.{Tunnel}
use Rattle.lsp_base.specs.declared.tunnel.Tunnel.TheVariants as tunnel
use Rattle.commit_core.specs.Names.{is_name}
use Rattle.commit_core.specs.declared.ticket.Purpose.{Purpose}
use Rattle.commit_core.specs.declared.ticket.Purpose.TheVariants as purpose
use Rattle.commit_core.specs.declared.ticket.Ticket.{Ticket}
use Rattle.step_core.specs.declared.names.AwaitedName.{AwaitedName}
use Rattle.step_core.specs.declared.peer.Peer.{Peer}
use Rattle.line_words.specs.Written.{MayBe}
use Rattle.step_lines.specs.Lines.{line_limit}
use Rattle.step_lines.specs.Normal.{IsLong}
use Rattle.base_lines.specs.Items.{items_of}
use Rattle.base_lines.specs.Lines.{message_has_line}
use Rattle.base_lines.specs.Words.{line_of}
use Rattle.base_lines.specs.declared.item.Counts.{Counts}
use Rattle.base_lines.specs.declared.item.Item.{Item}
use Rattle.base_lines.specs.declared.item.Item.TheVariants as item
use Rattle.base_lines.specs.declared.placed.PlacedBase.{PlacedBase}

abbrev pub IsPlsp : ℕ → Type 0
IsPlsp plsp = plsp < 2 ^ 20

abbrev pub IsPart : Part → Type 0
IsPart (part.Reported lsp) = lsp < 2 ^ 16
IsPart (part.Granted srp) = IsWord srp

abbrev pub IsTunnel : Tunnel → Type 0
IsTunnel (tunnel.Signalled peer endpoint number extended) = IsWord peer × IsWord endpoint × (number < 2 ^ 16) × IsWord extended
IsTunnel (tunnel.Unsignalled peer plsp) = IsWord peer × IsPlsp plsp
IsTunnel (tunnel.Asked peer srp) = IsWord peer × IsWord srp

pub record AreColours (c : Colours) : Type 0 where
  pub exclude_any : IsWord c.exclude_any
  pub include_any : IsWord c.include_any
  pub include_all : IsWord c.include_all

pub record AreConstraints (c : Constraints) : Type 0 where
  pub source : MayBe IsWord c.source
  pub destination : MayBe IsWord c.destination
  pub bandwidth : IsBandwidth c.bandwidth
  pub priorities : ArePriorities c.priorities
  pub colours : AreColours c.colours
  pub bound : MayBe IsLong c.bound
  pub hop_bound : MayBe IsLong c.hop_bound
  pub igp : MayBe IsLong (c.other_bounds).igp
  pub te : MayBe IsLong (c.other_bounds).te

abbrev pub IsName : List ℕ → Type 0
IsName bytes = (is_name bytes ≡ true) × IsBytes bytes

abbrev pub IsPurpose : Purpose → Type 0
IsPurpose (purpose.Update plsp) = IsPlsp plsp
IsPurpose (purpose.Initiate name c) = IsName name × AreConstraints c
IsPurpose (purpose.Answer request plsp c) = IsWord request × MayBe IsPlsp plsp × AreConstraints c

pub record AreCounts (c : Counts) : Type 0 where
  pub steps : IsLong c.steps
  pub grants : IsLong c.grants
  pub changes : IsLong c.changes
  pub last_session : IsLong c.last_session
  pub last_ticket : IsLong c.last_ticket

pub record AreValues (v : Values) : Type 0 where
  pub ranges : AreInRange v
  pub colour : IsWord v.colour

pub record IsPeer (p : Peer) : Type 0 where
  pub number : IsWord p.number
  pub session : IsLong p.session
  pub last_srp : IsWord p.last_srp
  pub nothing : p.outgoing ≡ []

-- a message that is written, and reads as itself
pub record IsWaiting (message : Message) : Type 0 where
  pub has_line : message_has_line message ≡ true
  pub normal : IsNormal message
  pub bytes : IsBytes (written message)

pub record IsPath (p : Path) : Type 0 where
  pub peer : IsWord p.peer
  pub plsp : IsPlsp p.plsp
  pub part : IsPart p.part
  pub tunnel : IsTunnel p.tunnel
  pub hold : p.hold ≤ 7
  pub bandwidth : IsBandwidth p.bandwidth
  pub links : AllByRecursion IsLong p.links

pub record IsLsp (l : Lsp) : Type 0 where
  pub name : IsBytes l.name
  pub constraints : AreConstraints l.constraints
  pub tunnel : IsTunnel l.tunnel
  pub removing : MayBe IsWord l.removing

pub record IsRecord (r : Record) : Type 0 where
  pub peer : IsWord r.peer
  pub plsp : IsPlsp r.plsp
  pub lsp : IsLsp r.lsp

pub record IsAwaited (a : AwaitedName) : Type 0 where
  pub peer : IsWord a.peer
  pub srp : IsWord a.srp
  pub name : IsName a.name

pub record IsTicket (t : Ticket) : Type 0 where
  pub id : IsLong t.id
  pub peer : IsWord t.peer
  pub session : IsLong t.session
  pub purpose : IsPurpose t.purpose
  pub constraints : AreConstraints t.constraints
  pub tries : IsWord t.tries
  pub seen : IsLong t.seen

abbrev pub IsItem : Item → Type 0
IsItem (item.Counts c) = AreCounts c
IsItem (item.Value v) = AreValues v
IsItem (item.Peer p) = IsPeer p
IsItem (item.Waits message) = IsWaiting message
IsItem (item.Path p) = IsPath p
IsItem (item.Record r) = IsRecord r
IsItem (item.Name a) = IsAwaited a
IsItem (item.Ticket t) = IsTicket t
IsItem item.End = Unit {0}

-- each field is in its range, and the line isn't too long
pub record IsNormalItem (i : Item) : Type 0 where
  pub fields : IsItem i
  pub small : length (line_of i) ≤ line_limit

abbrev pub IsNormalBase : PlacedBase → Type 0
IsNormalBase b = AllByRecursion IsNormalItem (items_of b)
