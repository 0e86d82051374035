-- What holds of every session that is served.
use Rattle.std.specs.Prelude.{◌≡◌, ℕ, List, ◌++◌, None}
use Rattle.pcep_session.specs.Ends.{most_turns}
use Rattle.pcep_session.specs.Turns.{next}
use Rattle.engine_core.specs.Deeds.{Deed}
use Rattle.engine_core.specs.Engine.{turns}
use Rattle.engine_core.specs.Plans.{Plan, Returns, LeadsTo}
use Rattle.engine_core.specs.declared.client.Client.{Client}

-- The first of these deeds lead the turns of a session to where it gives nothing more; the others are the deeds of what
-- goes on from there.
pub record GivesNoMore (peer : ℕ) (c : Client) (go_on : Client → Plan Client) (deeds : List Deed) (after : Client) : Type 0 where
  pub rested : Client
  pub first : List Deed
  pub others : List Deed
  pub whole : deeds ≡ first ++ others
  pub turned : LeadsTo (turns (most_turns c.session) peer c (λ w. Returns w)) first (Returns rested)
  pub no_more : (next rested.session).input ≡ None
  pub on : LeadsTo (go_on rested) others (Returns after)

-- The turns of a session are enough: it is served until it gives nothing more, whatever the replies are.
abbrev pub AllHandled : Type 0
AllHandled =
    (peer : ℕ) (c after : Client) (deeds : List Deed) (go_on : Client → Plan Client)
    → LeadsTo (turns (most_turns c.session) peer c go_on) deeds (Returns after) → GivesNoMore peer c go_on deeds after
