-- How many bytes events take in memory, on 64-bit machines, by the allocator of the GNU C library.
use Rattle.std.specs.Prelude.{ℕ, ◌+◌, ◌*◌, ◌/◌, ◌^◌, ◌==◌, min, max, nat_lt, List, length, Option, Some, None, if◌then◌else◌}
use Rattle.std.specs.List.{sum_by}
use Rattle.lsp_words.specs.declared.object.Hop.{Hop}
use Rattle.lsp_words.specs.declared.object.Hop.TheVariants.{Host, Other}
use Rattle.pcep_messages.specs.declared.message.StateReport.{StateReport}
use Rattle.commit_core.specs.declared.ticket.Purpose.{Purpose}
use Rattle.commit_core.specs.declared.ticket.Purpose.TheVariants as purpose
use Rattle.step_core.specs.declared.event.Event.{Event}
use Rattle.step_core.specs.declared.event.Event.TheVariants as event

-- what the allocator takes for a block: 8 bytes more, rounded up to 16, and at least 32
abbrev pub block : ℕ → ℕ
block bytes = if bytes == 0 then 0 else max (16 * ((bytes + 23) / 16)) 32

-- ---- routes

-- a subobject that isn't an address has a block for its bytes
abbrev pub hop_bytes : Hop → ℕ
hop_bytes (Host address loose) = 0
hop_bytes (Other kind bytes) = block (length bytes)

-- the length of a subobject on the wire (RFC 3209 section 4.3.3)
abbrev pub wire_size : Hop → ℕ
wire_size (Host address loose) = 8
wire_size (Other kind bytes) = length bytes + 2

-- how many hops the reader of a route makes room for: one for each 8 bytes of it, or one for each 4 if that isn't
-- enough
abbrev pub hop_room : ℕ → ℕ → ℕ
hop_room size hops = if nat_lt (size / 8) hops then size / 4 else size / 8

-- a hop takes 32 bytes
abbrev pub route_bytes : List Hop → ℕ
route_bytes hops = block (32 * hop_room (sum_by wire_size hops) (length hops)) + sum_by hop_bytes hops

abbrev pub reported_route_bytes : Option (List Hop) → ℕ
reported_route_bytes None = 0
reported_route_bytes (Some hops) = route_bytes hops

-- ---- events

abbrev pub name_bytes : Option (List ℕ) → ℕ
name_bytes None = 0
name_bytes (Some name) = block (length name)

abbrev pub report_bytes : StateReport → ℕ
report_bytes r = name_bytes r.name + route_bytes r.ero + reported_route_bytes r.rro

abbrev pub purpose_bytes : Purpose → ℕ
purpose_bytes (purpose.Update plsp) = 0
purpose_bytes (purpose.Initiate name constraints) = block (length name)
purpose_bytes (purpose.Answer request plsp constraints) = 0

-- the number of a link takes 8 bytes
abbrev pub offer_bytes : Option (List ℕ) → ℕ
offer_bytes None = 0
offer_bytes (Some links) = block (8 * length links)

-- what an event holds on the heap; the values of a link take 32 bytes
abbrev pub held_bytes : Event → ℕ
held_bytes (event.Report peer report) = report_bytes report
held_bytes (event.Ask peer purpose) = purpose_bytes purpose
held_bytes (event.Commit ticket offer) = offer_bytes offer
held_bytes (event.Reload links) = block (32 * length links)
held_bytes _ = 0

-- What a step of the event takes: a block of 224 bytes that the owners of the event share, 24 for the history and 64
-- for the seat's receipts, with the room for more of them; and what the event holds. At most 2^40 bytes are counted.
unfoldable pub bytes_of : Event → ℕ
bytes_of e = min (held_bytes e + 312) (2 ^ 40)
