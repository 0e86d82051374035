-- The end of a connection: what hanging up does.
use Rattle.std.proofs.Common.{◌≡◌, inl, inr, ℕ, Bool, true, false, if◌then◌else◌, List, [], ◌∷◌, ◌++◌, None, refl, ap, subst}
use Rattle.step_core.specs.declared.event.Event.TheVariants.{Down}
use Rattle.engine_core.specs.Calls.{called}
use Rattle.engine_core.specs.Deeds.{Deed, Called, Shown, calls_of}
use Rattle.engine_core.specs.Engine.{ending, hung_up}
use Rattle.engine_core.specs.Joining.{joined_by, joined_after}
use Rattle.engine_core.specs.Plans.{Plan, Returns, Reaches, LeadsTo, submitting}
use Rattle.engine_core.specs.declared.client.Client.{Client}
use Rattle.server_talk.specs.Connections.{IsDown}

pub joined_on : (joined : Bool) (first second : List Deed) → joined_after joined (calls_of (first ++ second)) ≡ joined_after (joined_after joined (calls_of first)) (calls_of second)
joined_on joined [] second = refl
joined_on joined (Called call ∷ first) second = joined_on (joined_by joined call.event call.reply) first second
joined_on joined (Shown sight ∷ first) second = joined_on joined first second

-- the plan of hanging up, depending on whether the peer is joined
abbrev pub at_end : Bool → ℕ → Client → Plan Client
at_end joined peer c =
    if joined then submitting c (Down peer) (λ reply. Returns (ending None None (record c { joined = false }))) else Returns (ending None None c)

-- hanging up submitted one Down if the peer was joined, else nothing
down_at : (joined : Bool) (peer : ℕ) (c after : Client) (deeds : List Deed) → LeadsTo (at_end joined peer c) deeds (Returns after) → IsDown peer joined deeds
down_at true peer c after [] (inl bad) = cc
down_at true peer c after [] (inr bad) = cc
down_at true peer c after (Shown sight ∷ deeds) h = absurd h
down_at true peer c after (Called call ∷ []) h = (call.reply, ap (λ (e : _). called e call.reply ∷ []) h.0)
down_at true peer c after (Called call ∷ other ∷ deeds) h = absurd h.1
down_at false peer c after [] h = refl
down_at false peer c after (deed ∷ deeds) h = absurd h

pub went_down : (peer : ℕ) (c after : Client) (deeds : List Deed) → LeadsTo (hung_up peer c) deeds (Returns after) → IsDown peer c.joined deeds
unfolding hung_up
went_down peer c after deeds h = down_at c.joined peer c after deeds h

-- hanging up fails only if there is a Down to submit
joined_at : (joined : Bool) (peer : ℕ) (c after : Client) (rest : Plan Client) (deeds : List Deed) → LeadsTo (at_end joined peer c) deeds (Reaches after rest) → joined ≡ true
joined_at true peer c after rest deeds h = refl
joined_at false peer c after rest [] h = cc
joined_at false peer c after rest (deed ∷ deeds) h = absurd h

pub was_joined : (peer : ℕ) (c after : Client) (rest : Plan Client) (deeds : List Deed) → LeadsTo (hung_up peer c) deeds (Reaches after rest) → c.joined ≡ true
unfolding hung_up
was_joined peer c after rest deeds h = joined_at c.joined peer c after rest deeds h

-- after these deeds the peer is down
pub is_down : (peer : ℕ) (joined : Bool) (deeds : List Deed) → IsDown peer joined deeds → joined_after joined (calls_of deeds) ≡ false
is_down peer true deeds h = ap (λ (all : List Deed). joined_after true (calls_of all)) h.1
is_down peer false deeds h = ap (λ (all : List Deed). joined_after false (calls_of all)) h

-- the same for an equal client
pub left_down : (peer of : ℕ) (c d after : Client) (deeds : List Deed) → of ≡ peer → d ≡ c → LeadsTo (hung_up of d) deeds (Returns after) → IsDown peer c.joined deeds
left_down peer of c d after deeds p q h =
    subst (λ (w : Client). IsDown peer w.joined deeds) q (subst (λ (n : ℕ). IsDown n d.joined deeds) p (went_down of d after deeds h))
