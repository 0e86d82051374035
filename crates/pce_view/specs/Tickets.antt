-- `tickets`: the paths that are asked for and not found yet.
use Rattle.std.specs.Prelude.{ℕ, List, [], ◌∷◌, codes, Some, ◌≡◌}
use Rattle.json.specs.Json.{Json, boolean, string, array, object, Items, no_items, item, no_members, member, document}
use Rattle.history_core.specs.Histories.{Content}
use Rattle.commit_core.specs.declared.ticket.Ticket.{Ticket}
use Rattle.pce_view.specs.Fields.{address, address_or_null, name_or_null, whole_or_null}
use Rattle.pce_view.specs.Json.{whole}
use Rattle.pce_view.specs.Words.{purpose_name, purpose_plsp, purpose_request, purpose_word}
use Rattle.std.specs.declared.alloc.Global.{Global}
use Rattle.std.specs.declared.vec.Vec.{Vec}

unfoldable pub ticket_json : Ticket → Json
ticket_json t = object
    (member (codes "ticket") (whole t.id)
    (member (codes "peer") (address t.peer)
    (member (codes "session") (whole t.session)
    (member (codes "purpose") (string (purpose_word t.purpose))
    (member (codes "plsp_id") (whole_or_null (purpose_plsp t.purpose))
    (member (codes "name") (name_or_null (purpose_name t.purpose))
    (member (codes "request_id") (whole_or_null (purpose_request t.purpose))
    (member (codes "source") (address_or_null (t.constraints).source)
    (member (codes "destination") (address_or_null (t.constraints).destination)
    (member (codes "bandwidth_bytes_per_second") (whole (t.constraints).bandwidth)
    (member (codes "setup_priority") (whole ((t.constraints).priorities).setup)
    (member (codes "hold_priority") (whole ((t.constraints).priorities).hold)
    (member (codes "tries") (whole t.tries)
    (member (codes "is_taken") (boolean t.taken)
    no_members))))))))))))))

abbrev pub ticket_items : List Ticket → Items
ticket_items [] = no_items
ticket_items (t ∷ ts) = item (ticket_json t) (ticket_items ts)

abbrev pub tickets_json : List Ticket → Json
tickets_json ts = object (member (codes "tickets") (array (ticket_items ts)) no_members)

-- a reader of JSON reads the text as what was seen
abbrev pub ReadsTickets : List Ticket → List ℕ → Type 0
ReadsTickets tickets text = document text ≡ Some (tickets_json tickets)

abbrev pub SeesTickets : Content → Vec Ticket Global → Type 0
SeesTickets d tickets = tickets.items ≡ d.state.tickets
