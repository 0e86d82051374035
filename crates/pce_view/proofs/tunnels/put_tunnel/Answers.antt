use Rattle.std.proofs.Common.{◌≡◌, ◌∙◌, ℕ, List, [], ◌∷◌, ◌++◌, Option, ap, append_assoc}
use Rattle.std.proofs.lemmas.Result.{on_ok_weaker}
use Rattle.std.specs.Prelude.{codes}
use Rattle.json.specs.Json.{Members, object, member}
use Rattle.json.specs.Token.{Token}
use Rattle.json.specs.Tree.{json_tokens, members_tokens}
use Rattle.te_snapshot.specs.declared.own.OwnShare.{OwnShare}
use Rattle.pce_seen.specs.declared.lsps.KnownLsp.{KnownLsp}
use Rattle.pce_view.specs.Fields.{address, address_or_null, whole_or_null}
use Rattle.pce_view.specs.Json.{whole}
use Rattle.pce_view.specs.Tunnels.{endpoint_of, extended_of, lists_members, tunnel_json, tunnel_of}
use Rattle.pce_view.proofs.tunnels.put_tunnel.Goals as goal

-- an object's bracket, its first members and the others
begun : (t0 t1 t2 t3 : List Token) (all others : Members) → t1 ≡ t0 ++ Token.begin_object ∷ [] → t2 ++ members_tokens others ≡ t1 ++ members_tokens all → t3 ≡ t2 ++ members_tokens others → t3 ≡ t0 ++ json_tokens (object all)
begun t0 t1 t2 t3 all others begin first rest =
    rest ∙ first ∙ ap (λ t. t ++ members_tokens all) begin ∙ append_assoc t0 (Token.begin_object ∷ []) (members_tokens all)

-- the members of a tunnel whose session is this
abbrev of_session : KnownLsp → List OwnShare → Option ℕ → Option ℕ → Option ℕ → Members
of_session l own endpoint tunnel extended =
    member (codes "peer") (address (l.known).peer)
    (member (codes "plsp_id") (whole (l.known).plsp)
    (member (codes "endpoint") (address_or_null endpoint)
    (member (codes "tunnel_id") (whole_or_null tunnel)
    (member (codes "extended_tunnel_id") (whole_or_null extended)
    (lists_members l.paths own)))))

session_is : (t : List Token) (l : KnownLsp) (own : List OwnShare) (e n x : Option ℕ) → e ≡ endpoint_of ((l.known).lsp).tunnel → n ≡ tunnel_of ((l.known).lsp).tunnel → x ≡ extended_of ((l.known).lsp).tunnel
    → t ++ json_tokens (object (of_session l own e n x)) ≡ t ++ json_tokens (tunnel_json l own)
unfolding tunnel_json
session_is t l own e n x endpoint tunnel extended =
    ap (λ v. t ++ json_tokens (object (of_session l own v n x))) endpoint
    ∙ ap (λ v. t ++ json_tokens (object (of_session l own (endpoint_of ((l.known).lsp).tunnel) v x))) tunnel
    ∙ ap (λ v. t ++ json_tokens (object (of_session l own (endpoint_of ((l.known).lsp).tunnel) (tunnel_of ((l.known).lsp).tunnel) v))) extended

pub returns-clause-written : goal.returns-clause-written
returns-clause-written c =
    let l = c.args.lsp.now in
    let own = c.args.own.now in
    let others = lists_members l.paths own in
    on_ok_weaker c.put_lists.result
    (λ rest.
    begun c.args.writer.now.tokens c.begin_object.new.self.tokens c.put_members.new.writer.tokens c.put_lists.new.writer.tokens
    (of_session l own c.endpoint_of-endpoint.result c.tunnel_of-number.result c.extended_of-extended.result) others
    c.in_ok-begin_object.ensures.ok (c.in_ok-put_members.ensures.written others)
    (rest ∙ ap (λ paths. c.put_members.new.writer.tokens ++ members_tokens (lists_members paths own)) c.as_slice.ensures)
    ∙ session_is c.args.writer.now.tokens l own c.endpoint_of-endpoint.result c.tunnel_of-number.result c.extended_of-extended.result c.endpoint_of-endpoint.ensures c.tunnel_of-number.ensures c.extended_of-extended.ensures)
    c.put_lists.ensures.written
