-- Sessions in their places: found, replaced, removed, added.
use Rattle.std.proofs.Common.{inl, inr, Ordering, Less, Equal, Greater, ◌≡◌, ◌≢◌, ℕ, Bool, true, false, cond, List, [], ◌∷◌, Option, Some, None, is_some, IsSome, refl, sym, ◌∙◌, ap, subst}
use Rattle.std.proofs.lemmas.Bool.{cases_eq}
use Rattle.std.specs.BTreeMap.{insert_entry}
use Rattle.std.specs.Map.{lookup, set_value, remove_entry, keys_of}
use Rattle.std.specs.Ordering.{nat_cmp, is_eq, match_ordering}
use Rattle.slab.specs.Slab.{Slab, get, Updates}
use Rattle.pce_engine.specs.Sessions.{Sessions, is_peer}
use Rattle.pce_engine.specs.Places.{session_before, sessions_at, IsApart, ArePlaced}
use Rattle.engine_core.specs.declared.client.Client.{Client}

-- a missing session isn't a session
none_is_no_some : false ≢ true
none_is_no_some e = absurd cc

-- every other place keeps its session
abbrev pub KeepsOthers : Slab Client → Slab Client → ℕ → Type 0
KeepsOthers old new place = (other : ℕ) → other ≢ place → get new other ≡ get old other

pub others_stay : (old new : Slab Client) (place : ℕ) → KeepsOthers old new place → (places : List (ℕ × ℕ)) → IsApart place places → sessions_at new places ≡ sessions_at old places
others_stay old new place keeps [] apart = refl
others_stay old new place keeps (entry ∷ places) apart =
    ap (λ slot. session_before entry.0 slot (sessions_at new places)) (keeps entry.1 (λ e. apart.0 (sym e)))
    ∙ ap (session_before entry.0 (get old entry.1)) (others_stay old new place keeps places apart.1)

pub placed_stay : (old new : Slab Client) (place : ℕ) → KeepsOthers old new place → (places : List (ℕ × ℕ)) → IsApart place places → ArePlaced old places → ArePlaced new places
placed_stay old new place keeps [] apart placed = tt
placed_stay old new place keeps (entry ∷ places) apart placed =
    (ap is_some (keeps entry.1 (λ e. apart.0 (sym e))) ∙ placed.0, placed.1, placed_stay old new place keeps places apart.1 placed.2)

-- each entry has a session after one was replaced
pub placed_replaced : (old new : Slab Client) (place : ℕ) → KeepsOthers old new place → IsSome (get new place) → (places : List (ℕ × ℕ)) → ArePlaced old places → ArePlaced new places
placed_replaced old new place keeps now [] placed = tt
placed_replaced old new place keeps now (entry ∷ places) placed = (first, placed.1, placed_replaced old new place keeps now places placed.2)
  where
    first : IsSome (get new entry.1)
    first = elim (cases_eq entry.1 place) [
      | inl same ↦ ap is_some (ap (get new) same) ∙ now
      | inr differs ↦ ap is_some (keeps entry.1 differs) ∙ placed.0
    ]

-- no entry has a place without a session
pub vacant_apart : (clients : Slab Client) (place : ℕ) → get clients place ≡ None → (places : List (ℕ × ℕ)) → ArePlaced clients places → IsApart place places
vacant_apart clients place vacant [] placed = tt
vacant_apart clients place vacant (entry ∷ places) placed = (λ e. not_here e, vacant_apart clients place vacant places placed.2)
  where
    not_here : place ≢ entry.1
    not_here e = none_is_no_some (sym (ap is_some (ap (get clients) (sym e) ∙ vacant)) ∙ placed.0)

-- the session of an entry
abbrev pub session_at : Slab Client → Option ℕ → Option Client
session_at clients None = None
session_at clients (Some place) = get clients place

-- the entry at the front has a session, and comes first in the list
session_here : (clients : Slab Client) (entry : ℕ × ℕ) (rest : Sessions) → IsSome (get clients entry.1) → (client : Client) × (get clients entry.1 ≡ Some client) × (session_before entry.0 (get clients entry.1) rest ≡ (entry.0, client) ∷ rest)
session_here clients entry rest h = by_slot (get clients entry.1) refl h
  where
    by_slot : (slot : Option Client) → get clients entry.1 ≡ slot → IsSome slot → (client : Client) × (get clients entry.1 ≡ Some client) × (session_before entry.0 (get clients entry.1) rest ≡ (entry.0, client) ∷ rest)
    by_slot None e h = absurd cc
    by_slot (Some client) e h = (client, e, ap (λ slot. session_before entry.0 slot rest) e)

module _ (test : ℕ → Bool) where
  -- an entry that is found isn't at a place where no entry is
  pub found_apart : (other place : ℕ) (places : List (ℕ × ℕ)) → IsApart other places → lookup test places ≡ Some place → other ≢ place
  found_apart other place [] apart found = absurd cc
  found_apart other place (entry ∷ places) apart found = by_key (test entry.0) refl found (found_apart other place places apart.1)
    where
      by_key : (b : Bool) → test entry.0 ≡ b → cond (test entry.0) (Some entry.1) (lookup test places) ≡ Some place → (lookup test places ≡ Some place → other ≢ place) → other ≢ place
      by_key true t found later = λ e. apart.0 (e ∙ here)
        where
          here : place ≡ entry.1
          here = cc
      by_key false t found later = later (sym (ap (λ b. cond b (Some entry.1) (lookup test places)) t) ∙ found)

  abbrev pub Finds : Slab Client → List (ℕ × ℕ) → Type 0
  Finds clients places = lookup test (sessions_at clients places) ≡ session_at clients (lookup test places)

  finds_first : (clients : Slab Client) (entry : ℕ × ℕ) (places : List (ℕ × ℕ)) (client : Client) → get clients entry.1 ≡ Some client → Finds clients places → (b : Bool) → test entry.0 ≡ b → Finds clients (entry ∷ places)
  finds_first clients entry places client e later true t = rw (e, t) (sym e)
  finds_first clients entry places client e later false t = rw (e, t) later

  pub found_session : (clients : Slab Client) (places : List (ℕ × ℕ)) → ArePlaced clients places → Finds clients places
  found_session clients [] placed = refl
  found_session clients (entry ∷ places) placed =
      let here = session_here clients entry (sessions_at clients places) placed.0 in
      finds_first clients entry places here.0 here.1 (found_session clients places placed.2) (test entry.0) refl

  pub lives_placed : (clients : Slab Client) (places : List (ℕ × ℕ)) → ArePlaced clients places → is_some (lookup test places) ≡ is_some (lookup test (sessions_at clients places))
  lives_placed clients [] placed = refl
  lives_placed clients (entry ∷ places) placed =
      let here = session_here clients entry (sessions_at clients places) placed.0 in
      by_key here.0 (here.2) (test entry.0) refl (lives_placed clients places placed.2)
    where
      by_key : (client : Client) → sessions_at clients (entry ∷ places) ≡ (entry.0, client) ∷ sessions_at clients places → (b : Bool) → test entry.0 ≡ b → is_some (lookup test places) ≡ is_some (lookup test (sessions_at clients places))
          → is_some (lookup test (entry ∷ places)) ≡ is_some (lookup test (sessions_at clients (entry ∷ places)))
      by_key client e true t later = rw (e, t)
      by_key client e false t later = rw (e, t) later

  -- the place of a peer's session isn't empty
  pub found_placed : (clients : Slab Client) (place : ℕ) (places : List (ℕ × ℕ)) → ArePlaced clients places → lookup test places ≡ Some place → IsSome (get clients place)
  found_placed clients place [] placed found = absurd cc
  found_placed clients place (entry ∷ places) placed found = by_key (test entry.0) found (found_placed clients place places placed.2)
    where
      by_key : (b : Bool) → cond b (Some entry.1) (lookup test places) ≡ Some place → (lookup test places ≡ Some place → IsSome (get clients place)) → IsSome (get clients place)
      by_key true found later =
          let here : entry.1 ≡ place = cc in
          subst (λ p. IsSome (get clients p)) here placed.0
      by_key false found later = later found

  -- a peer with no session has no entry
  pub no_entry : (clients : Slab Client) (places : List (ℕ × ℕ)) → ArePlaced clients places → lookup test (sessions_at clients places) ≡ None → lookup test places ≡ None
  no_entry clients places placed none = by_seat (lookup test places) (lives_placed clients places placed ∙ ap is_some none)
    where
      by_seat : (entry : Option ℕ) → is_some entry ≡ false → entry ≡ None
      by_seat None h = refl
      by_seat (Some place) h = absurd cc

  -- a session is replaced where it stands
  abbrev pub IsReplaced : Slab Client → Slab Client → List (ℕ × ℕ) → Client → Type 0
  IsReplaced old new places client = sessions_at new places ≡ set_value test (sessions_at old places) client

  replaced_first : (old new : Slab Client) (place : ℕ) (client was : Client) (entry : ℕ × ℕ) (places : List (ℕ × ℕ)) → KeepsOthers old new place → get new place ≡ Some client
      → IsApart entry.1 places → get old entry.1 ≡ Some was → (b : Bool) → test entry.0 ≡ b → cond b (Some entry.1) (lookup test places) ≡ Some place
      → (lookup test places ≡ Some place → IsReplaced old new places client) → IsReplaced old new (entry ∷ places) client
  replaced_first old new place client was entry places keeps now apart e true t found later =
      let here : entry.1 ≡ place = cc in
      let stays = others_stay old new place keeps places (subst (λ p. IsApart p places) here apart) in
      rw (e, t, here, now, stays)
  replaced_first old new place client was entry places keeps now apart e false t found later =
      let other = keeps entry.1 (found_apart entry.1 place places apart found) in
      rw (other, e, t, later found)

  pub replaced : (old new : Slab Client) (place : ℕ) (client : Client) → KeepsOthers old new place → get new place ≡ Some client → (places : List (ℕ × ℕ)) → ArePlaced old places → lookup test places ≡ Some place → IsReplaced old new places client
  replaced old new place client keeps now [] placed found = absurd cc
  replaced old new place client keeps now (entry ∷ places) placed found =
      let here = session_here old entry (sessions_at old places) placed.0 in
      replaced_first old new place client here.0 entry places keeps now placed.1 here.1 (test entry.0) refl found (replaced old new place client keeps now places placed.2)

  -- a session is removed
  no_entry_less : (place : ℕ) (places : List (ℕ × ℕ)) → IsApart place places → IsApart place (remove_entry test places)
  no_entry_less place [] apart = tt
  no_entry_less place (entry ∷ places) apart = by_key (test entry.0) (no_entry_less place places apart.1)
    where
      by_key : (b : Bool) → IsApart place (remove_entry test places) → IsApart place (cond b places (entry ∷ remove_entry test places))
      by_key true later = apart.1
      by_key false later = (apart.0, later)

  abbrev pub IsGone : Slab Client → Slab Client → List (ℕ × ℕ) → Type 0
  IsGone old new places = (sessions_at new (remove_entry test places) ≡ remove_entry test (sessions_at old places)) × ArePlaced new (remove_entry test places)

  gone_first : (old new : Slab Client) (place : ℕ) (was : Client) (entry : ℕ × ℕ) (places : List (ℕ × ℕ)) → KeepsOthers old new place → ArePlaced old (entry ∷ places) → get old entry.1 ≡ Some was
      → (b : Bool) → test entry.0 ≡ b → cond b (Some entry.1) (lookup test places) ≡ Some place → (lookup test places ≡ Some place → IsGone old new places) → IsGone old new (entry ∷ places)
  gone_first old new place was entry places keeps placed e true t found later =
      let here : entry.1 ≡ place = cc in
      let apart = subst (λ p. IsApart p places) here placed.1 in
      rw (e, t) (others_stay old new place keeps places apart, placed_stay old new place keeps places apart placed.2)
  gone_first old new place was entry places keeps placed e false t found later =
      let other = keeps entry.1 (found_apart entry.1 place places placed.1 found) in
      let rest = later found in
      rw (e, t, other, e) (ap (λ l. (entry.0, was) ∷ l) rest.0, (refl, no_entry_less entry.1 places placed.1, rest.1))

  pub gone : (old new : Slab Client) (place : ℕ) → KeepsOthers old new place → (places : List (ℕ × ℕ)) → ArePlaced old places → lookup test places ≡ Some place → IsGone old new places
  gone old new place keeps [] placed found = absurd cc
  gone old new place keeps (entry ∷ places) placed found =
      let here = session_here old entry (sessions_at old places) placed.0 in
      gone_first old new place here.0 entry places keeps placed here.1 (test entry.0) refl found (gone old new place keeps places placed.2)

  -- if no session has this key, removing it changes nothing
  pub none_gone : (clients : Slab Client) (places : List (ℕ × ℕ)) → ArePlaced clients places → lookup test places ≡ None → sessions_at clients places ≡ remove_entry test (sessions_at clients places)
  none_gone clients [] placed none = refl
  none_gone clients (entry ∷ places) placed none =
      let here = session_here clients entry (sessions_at clients places) placed.0 in
      by_key here.0 here.1 (test entry.0) refl none (none_gone clients places placed.2)
    where
      by_key : (client : Client) → get clients entry.1 ≡ Some client → (b : Bool) → test entry.0 ≡ b → cond b (Some entry.1) (lookup test places) ≡ None
          → (lookup test places ≡ None → sessions_at clients places ≡ remove_entry test (sessions_at clients places)) → sessions_at clients (entry ∷ places) ≡ remove_entry test (sessions_at clients (entry ∷ places))
      by_key client e true t none later = absurd cc
      by_key client e false t none later = rw (e, t) (ap (λ l. (entry.0, client) ∷ l) (later none))

-- the peers in their order
pub peers_placed : (clients : Slab Client) (places : List (ℕ × ℕ)) → ArePlaced clients places → keys_of places ≡ keys_of (sessions_at clients places)
peers_placed clients [] placed = refl
peers_placed clients (entry ∷ places) placed =
    let here = session_here clients entry (sessions_at clients places) placed.0 in
    ap (λ l. entry.0 ∷ l) (peers_placed clients places placed.2) ∙ ap keys_of (sym here.2)

-- a session is added
apart_more : (place peer at : ℕ) (places : List (ℕ × ℕ)) → place ≢ at → IsApart place places → IsApart place (insert_entry nat_cmp places peer at)
apart_more place peer at [] other apart = (other, tt)
apart_more place peer at (entry ∷ places) other apart = by_order (nat_cmp peer entry.0) (apart_more place peer at places other apart.1)
  where
    by_order : (o : Ordering) → IsApart place (insert_entry nat_cmp places peer at) → IsApart place (match_ordering o ((peer, at) ∷ entry ∷ places) ((entry.0, at) ∷ places) (entry ∷ insert_entry nat_cmp places peer at))
    by_order Less later = (other, apart)
    by_order Equal later = (other, apart.1)
    by_order Greater later = (apart.0, later)

abbrev pub IsAdded : Slab Client → Slab Client → List (ℕ × ℕ) → ℕ → ℕ → Client → Type 0
IsAdded old new places peer place client = (sessions_at new (insert_entry nat_cmp places peer place) ≡ insert_entry nat_cmp (sessions_at old places) peer client) × ArePlaced new (insert_entry nat_cmp places peer place)

added_first : (old new : Slab Client) (peer place : ℕ) (client was : Client) (entry : ℕ × ℕ) (places : List (ℕ × ℕ)) → KeepsOthers old new place → get new place ≡ Some client
    → IsApart place (entry ∷ places) → ArePlaced old (entry ∷ places) → get old entry.1 ≡ Some was
    → (o : Ordering) → nat_cmp peer entry.0 ≡ o → cond (is_eq o) (Some entry.1) (lookup (is_peer peer) places) ≡ None → (lookup (is_peer peer) places ≡ None → IsAdded old new places peer place client) → IsAdded old new (entry ∷ places) peer place client
added_first old new peer place client was entry places keeps now apart placed e Less t none later =
    let stays = others_stay old new place keeps (entry ∷ places) apart in
    let stay = placed_stay old new place keeps (entry ∷ places) apart placed in
    rw (t, now) (ap (λ l. (peer, client) ∷ l) stays ∙ added_before, (refl, apart, stay))
  where
    added_before : (peer, client) ∷ sessions_at old (entry ∷ places) ≡ insert_entry nat_cmp (sessions_at old (entry ∷ places)) peer client
    added_before = rw (e, t)
added_first old new peer place client was entry places keeps now apart placed e Equal t none later = absurd cc
added_first old new peer place client was entry places keeps now apart placed e Greater t none later =
    let other = keeps entry.1 (λ same. apart.0 (sym same)) in
    let rest = later none in
    rw (t, other, e) (ap (λ l. (entry.0, was) ∷ l) rest.0 ∙ added_after, (refl, apart_more entry.1 peer place places (λ same. apart.0 (sym same)) placed.1, rest.1))
  where
    added_after : (entry.0, was) ∷ insert_entry nat_cmp (sessions_at old places) peer client ≡ insert_entry nat_cmp ((entry.0, was) ∷ sessions_at old places) peer client
    added_after = rw t

pub added : (old new : Slab Client) (peer place : ℕ) (client : Client) → KeepsOthers old new place → get new place ≡ Some client → (places : List (ℕ × ℕ)) → IsApart place places → ArePlaced old places → lookup (is_peer peer) places ≡ None
    → IsAdded old new places peer place client
added old new peer place client keeps now [] apart placed none = (ap (λ slot. session_before peer slot []) now, (ap is_some now, tt, tt))
added old new peer place client keeps now (entry ∷ places) apart placed none =
    let here = session_here old entry (sessions_at old places) placed.0 in
    added_first old new peer place client here.0 entry places keeps now apart placed here.1 (nat_cmp peer entry.0) refl none (added old new peer place client keeps now places apart.1 placed.2)

-- more room changes no session
pub roomier : (old new : Slab Client) → new ≡ record old { capacity = new.capacity } → (places : List (ℕ × ℕ)) → ArePlaced old places → ArePlaced new places
roomier old new same places placed = subst (λ clients. ArePlaced clients places) (sym same) placed

-- after room was made, a session is added at the vacant place
pub added_in_room : (old roomy new : Slab Client) (peer place : ℕ) (client : Client) → roomy ≡ record old { capacity = roomy.capacity } → Updates roomy new place (Some client) → get roomy place ≡ None
    → (places : List (ℕ × ℕ)) → ArePlaced old places → lookup (is_peer peer) (sessions_at old places) ≡ None → IsAdded old new places peer place client
added_in_room old roomy new peer place client same updates vacant places placed none =
    let room = roomier old roomy same places placed in
    let stands : sessions_at roomy places ≡ sessions_at old places = ap (λ clients. sessions_at clients places) same in
    let apart = vacant_apart roomy place vacant places room in
    let no = no_entry (is_peer peer) roomy places room (ap (lookup (is_peer peer)) stands ∙ none) in
    let done = added roomy new peer place client updates.others updates.changed places apart room no in
    (done.0 ∙ ap (λ sessions. insert_entry nat_cmp sessions peer client) stands, done.1)
