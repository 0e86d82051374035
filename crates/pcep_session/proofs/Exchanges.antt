-- Exchanges of a session with a peer, computed by the definitions.
use Rattle.std.proofs.Common.{◌≡◌, ℕ, List, [], ◌∷◌, ◌++◌, refl, true}
use Rattle.std.specs.Prelude.{Some, None}
use Rattle.std.specs.List.{flat_map}
use Rattle.pcep_objects.specs.Steps.{cut}
use Rattle.pcep_objects.specs.Tlvs.{tlv_size, tlvs_in, skipped_tlvs, value_in, fitting_in, word_in}
use Rattle.pcep_objects.specs.Routes.{subobject_size, hop_of, hops_of}
use Rattle.pcep_objects.specs.Bodies.{ero_body, lsp_body}
use Rattle.pcep_objects.specs.SessionObjects.{open_of, close_of}
use Rattle.pcep_objects.specs.Objects.{header_at, object_at}
use Rattle.pcep_messages.specs.Objects.{found_from}
use Rattle.pcep_messages.specs.Reports.{report_body}
use Rattle.pcep_messages.specs.Parts.{parts_of}
use Rattle.pcep_messages.specs.Sessions.{opening_body, keepalive_body, close_body}
use Rattle.pcep_messages.specs.Messages.{message_in}
use Rattle.pcep_messages.specs.Spelling.{object_spelled}
use Rattle.pcep_session.specs.Framing.{front_of}
use Rattle.pcep_session.specs.Turns.{arrival}
use Rattle.pcep_session.specs.Runs.{Call, Feed, Tick, Next, End, Take_output, session}
use Rattle.pcep_session.specs.declared.table.Input.{Input}
use Rattle.pcep_session.specs.declared.table.Input.TheVariants.{Up, Down, Handled}

-- what the calls of a session that begins at this moment give
abbrev Gives : ℕ → List Call → List Input → List ℕ → Type 0
Gives now_ms calls inputs output = ((session now_ms calls).inputs ≡ inputs) × ((session now_ms calls).output ≡ output)

-- the session's Open, and the peer's: Keepalive 30, DeadTimer 120, update and create
abbrev open_message : List ℕ
open_message = 32 ∷ 1 ∷ 0 ∷ 20 ∷ 1 ∷ 16 ∷ 0 ∷ 16 ∷ 32 ∷ 30 ∷ 120 ∷ 0 ∷ 0 ∷ 16 ∷ 0 ∷ 4 ∷ 0 ∷ 0 ∷ 0 ∷ 5 ∷ []

abbrev keepalive : List ℕ
keepalive = 32 ∷ 2 ∷ 0 ∷ 4 ∷ []

-- bytes that come at once at moment 0, and then `next` twice
abbrev fed : List ℕ → List Call
fed bytes = Feed bytes 0 ∷ Next ∷ Next ∷ []

-- byte by byte
abbrev fed_each : List ℕ → List Call
fed_each bytes = flat_map (λ b. Feed (b ∷ []) 0 ∷ Next ∷ []) bytes

abbrev ticked : ℕ → List Call
ticked now_ms = Tick now_ms ∷ Next ∷ Next ∷ []

abbrev comes_up : List Call
comes_up = fed open_message ++ fed keepalive

abbrev came_up : List Input
came_up = Handled ∷ Up (Some (record { update = true; create = true })) ∷ []

abbrev up_output : List ℕ
up_output = open_message ++ keepalive

-- the peer's Open and Keepalive
in_two_pieces : Gives 0 comes_up came_up up_output
unfolding front_of arrival message_in object_spelled parts_of opening_body keepalive_body close_body report_body found_from object_at header_at open_of close_of word_in value_in fitting_in skipped_tlvs tlvs_in ero_body lsp_body hops_of hop_of subobject_size tlv_size cut
in_two_pieces = (refl, refl)

-- the same, byte by byte
byte_by_byte : Gives 0 (fed_each open_message ++ fed_each keepalive) came_up up_output
unfolding front_of arrival message_in object_spelled parts_of opening_body keepalive_body close_body report_body found_from object_at header_at open_of close_of word_in value_in fitting_in skipped_tlvs tlvs_in ero_body lsp_body hops_of hop_of subobject_size tlv_size cut
byte_by_byte = (refl, refl)

abbrev close : ℕ → List ℕ
close reason = 32 ∷ 7 ∷ 0 ∷ 12 ∷ 15 ∷ 16 ∷ 0 ∷ 8 ∷ 0 ∷ 0 ∷ 0 ∷ reason ∷ []

abbrev error : ℕ → ℕ → List ℕ
error kind value = 32 ∷ 6 ∷ 0 ∷ 12 ∷ 13 ∷ 16 ∷ 0 ∷ 8 ∷ 0 ∷ 0 ∷ kind ∷ value ∷ []

-- a length that is no multiple of 4
bad_header : Gives 0 (comes_up ++ fed (32 ∷ 3 ∷ 0 ∷ 3 ∷ [])) (came_up ++ Down ∷ []) (up_output ++ close 3)
unfolding front_of arrival message_in object_spelled parts_of opening_body keepalive_body close_body report_body found_from object_at header_at open_of close_of word_in value_in fitting_in skipped_tlvs tlvs_in ero_body lsp_body hops_of hop_of subobject_size tlv_size cut
bad_header = (refl, refl)

-- the transport ends within a header
end_within_a_message : Gives 0 (comes_up ++ fed (32 ∷ 3 ∷ 0 ∷ []) ++ End None None ∷ Next ∷ Next ∷ []) (came_up ++ Down ∷ []) up_output
unfolding front_of arrival message_in object_spelled parts_of opening_body keepalive_body close_body report_body found_from object_at header_at open_of close_of word_in value_in fitting_in skipped_tlvs tlvs_in ero_body lsp_body hops_of hop_of subobject_size tlv_size cut
end_within_a_message = (refl, refl)

-- a report whose LSP has no identifiers
no_identifiers : Gives 0 (comes_up ++ fed (32 ∷ 10 ∷ 0 ∷ 16 ∷ 32 ∷ 16 ∷ 0 ∷ 8 ∷ 0 ∷ 0 ∷ 16 ∷ 24 ∷ 7 ∷ 16 ∷ 0 ∷ 4 ∷ [])) (came_up ++ Down ∷ []) (up_output ++ error 6 11 ++ close 3)
unfolding front_of arrival message_in object_spelled parts_of opening_body keepalive_body close_body report_body found_from object_at header_at open_of close_of word_in value_in fitting_in skipped_tlvs tlvs_in ero_body lsp_body hops_of hop_of subobject_size tlv_size cut
no_identifiers = (refl, refl)

-- a message of an unknown type
abbrev unknown : List Call
unknown = fed (32 ∷ 99 ∷ 0 ∷ 4 ∷ [])

-- the fifth of these within a minute ends the session
five_unknown : Gives 0 (comes_up ++ unknown ++ unknown ++ unknown ++ unknown ++ unknown) (came_up ++ Handled ∷ Handled ∷ Handled ∷ Handled ∷ Down ∷ []) (up_output ++ error 2 0 ++ error 2 0 ++ error 2 0 ++ error 2 0 ++ error 2 0 ++ close 5)
unfolding front_of arrival message_in object_spelled parts_of opening_body keepalive_body close_body report_body found_from object_at header_at open_of close_of word_in value_in fitting_in skipped_tlvs tlvs_in ero_body lsp_body hops_of hop_of subobject_size tlv_size cut
five_unknown = (refl, refl)

-- the fifth, 60,000 ms after the others, doesn't end it
five_unknown_in_a_minute_and_more : Gives 0 (comes_up ++ unknown ++ unknown ++ unknown ++ unknown ++ Tick 60000 ∷ unknown) (came_up ++ Handled ∷ Handled ∷ Handled ∷ Handled ∷ Handled ∷ []) (up_output ++ error 2 0 ++ error 2 0 ++ error 2 0 ++ error 2 0 ++ error 2 0)
unfolding front_of arrival message_in object_spelled parts_of opening_body keepalive_body close_body report_body found_from object_at header_at open_of close_of word_in value_in fitting_in skipped_tlvs tlvs_in ero_body lsp_body hops_of hop_of subobject_size tlv_size cut
five_unknown_in_a_minute_and_more = (refl, refl)

-- Keepalives after 30 s, and the peer's DeadTimer after 120 s
timers : Gives 0 (comes_up ++ ticked 30000 ++ ticked 119999 ++ ticked 120000) (came_up ++ Handled ∷ Handled ∷ Down ∷ []) (up_output ++ keepalive ++ keepalive ++ close 2)
unfolding front_of arrival message_in object_spelled parts_of opening_body keepalive_body close_body report_body found_from object_at header_at open_of close_of word_in value_in fitting_in skipped_tlvs tlvs_in ero_body lsp_body hops_of hop_of subobject_size tlv_size cut
timers = (refl, refl)

-- no Open for a minute; an earlier moment is ignored
no_open : Gives 120000 (Tick 60000 ∷ ticked 179999 ++ ticked 180000) (Down ∷ []) (open_message ++ error 1 2)
unfolding front_of arrival message_in object_spelled parts_of opening_body keepalive_body close_body report_body found_from object_at header_at open_of close_of word_in value_in fitting_in skipped_tlvs tlvs_in ero_body lsp_body hops_of hop_of subobject_size tlv_size cut
no_open = (refl, refl)

-- output that is taken counts once
taken : Gives 0 (Take_output ∷ comes_up ++ Take_output ∷ []) came_up up_output
unfolding front_of arrival message_in object_spelled parts_of opening_body keepalive_body close_body report_body found_from object_at header_at open_of close_of word_in value_in fitting_in skipped_tlvs tlvs_in ero_body lsp_body hops_of hop_of subobject_size tlv_size cut
taken = (refl, refl)
