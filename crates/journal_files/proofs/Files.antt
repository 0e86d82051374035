-- No line of a file is bad exactly where the file is in order.
use Rattle.std.proofs.Common.{◌≡◌, ℕ, ◌+◌, ◌==◌, Bool, true, false, List, [], ◌∷◌, ◌++◌, Option, Some, None, if◌then◌else◌, inl, inr, refl, sym, ap, ◌∙◌}
use Rattle.std.specs.List.{AllByRecursion}
use Rattle.journal_files.specs.Heads.{head_in, is_mark, is_end, place_in}
use Rattle.journal_files.specs.Moments.{is_moment, not_before}
use Rattle.journal_files.specs.Order.{has_steps, at_head, goes_on, at_place, kind_of, after}
use Rattle.journal_files.specs.Files.{lines_read, if_whole, file_read, AreSteps, IsText, IsBase, HasBase, IsFile}
use Rattle.journal_files.specs.declared.order.Order.{Order}
use Rattle.journal_files.specs.declared.order.Part.TheVariants as parts

abbrev in_steps : Option (List ℕ) → ℕ → List ℕ → Order
in_steps run n m = record { part = parts.Steps; run = run; next = n; moment = m }

abbrev in_text : Option (List ℕ) → ℕ → List ℕ → Order
in_text run n m = record { part = parts.Text; run = run; next = n; moment = m }

abbrev in_base : Option (List ℕ) → ℕ → List ℕ → Order
in_base run n m = record { part = parts.Base; run = run; next = n; moment = m }

-- behind the link text
abbrev behind_text : (is_start : Bool) → Option (List ℕ) → ℕ → List ℕ → Order
behind_text is_start run n m = record { part = if is_start then parts.Steps else parts.Base; run = run; next = n; moment = m }

-- ---- the lines of steps

record StepsRead (run : Option (List ℕ)) (n : ℕ) (m : List ℕ) (lines : List (List ℕ)) (to : Order) : Type 0 where
  steps : AreSteps n m lines to.next to.moment
  same : to ≡ in_steps run to.next to.moment

one_step : (moment later at : Bool) (run : Option (List ℕ)) (n : ℕ) (m line : List ℕ) (lines : List (List ℕ)) (to : Order)
    → is_moment line ≡ moment → not_before line m ≡ later → at_place n (place_in line) ≡ at
    → lines_read (in_steps run n m) (line ∷ lines) ≡ Some to
    → (lines_read (in_steps run n line) lines ≡ Some to → StepsRead run n line lines to)
    → (lines_read (in_steps run (n + 1) m) lines ≡ Some to → StepsRead run (n + 1) m lines to)
    → StepsRead run n m (line ∷ lines) to
unfolding kind_of after
one_step true true at run n m line lines to e l a h time step =
    let rest = time (rw (e, l) at h) in
    record { steps = inl (e, l, rest.steps); same = rest.same }
one_step true false at run n m line lines to e l a h time step =
    absurd (let bad : None ≡ Some to = rw (e, l) at h in cc)
one_step false later true run n m line lines to e l a h time step =
    let rest = step (rw (e, a) at h) in
    record { steps = inr (e, a, rest.steps); same = rest.same }
one_step false later false run n m line lines to e l a h time step =
    absurd (let bad : None ≡ Some to = rw (e, a) at h in cc)

steps_read : (run : Option (List ℕ)) (n : ℕ) (m : List ℕ) (lines : List (List ℕ)) (to : Order) → lines_read (in_steps run n m) lines ≡ Some to → StepsRead run n m lines to
steps_read run n m [] to h =
    let e : to ≡ in_steps run n m = cc in
    record { steps = (ap (λ (o : Order). o.next) e, ap (λ (o : Order). o.moment) e); same = rw e refl }
steps_read run n m (line ∷ lines) to h =
    one_step (is_moment line) (not_before line m) (at_place n (place_in line)) run n m line lines to refl refl refl h
    (λ rest. steps_read run n line lines to rest)
    (λ rest. steps_read run (n + 1) m lines to rest)

steps_back : (run : Option (List ℕ)) (n : ℕ) (m : List ℕ) (lines : List (List ℕ)) (next : ℕ) (last : List ℕ) → AreSteps n m lines next last
    → lines_read (in_steps run n m) lines ≡ Some (in_steps run next last)
unfolding kind_of after
steps_back run n m [] next last h = rw (h.0, h.1) refl
steps_back run n m (line ∷ lines) next last (inl h) = rw (h.0, h.1) (steps_back run n line lines next last h.2)
steps_back run n m (line ∷ lines) next last (inr h) = rw (h.0, h.1) (steps_back run (n + 1) m lines next last h.2)

-- ---- the base

record BaseRead (run : Option (List ℕ)) (n : ℕ) (m : List ℕ) (lines : List (List ℕ)) (to : Order) : Type 0 where
  base : List (List ℕ)
  steps : List (List ℕ)
  whole : lines ≡ base ++ steps
  is_base : IsBase base
  read : StepsRead run n m steps to

one_item : (ended : Bool) (run : Option (List ℕ)) (n : ℕ) (m line : List ℕ) (lines : List (List ℕ)) (to : Order) → is_end line ≡ ended
    → lines_read (in_base run n m) (line ∷ lines) ≡ Some to
    → (lines_read (in_base run n m) lines ≡ Some to → BaseRead run n m lines to)
    → BaseRead run n m (line ∷ lines) to
unfolding kind_of after
one_item true run n m line lines to e h more = record {
  base = line ∷ [];
  steps = lines;
  whole = refl;
  is_base = record { items = []; end = line; whole = refl; are_items = tt; is_ended = e };
  read = steps_read run n m lines to (rw e at h);
}
one_item false run n m line lines to e h more =
    let rest = more (rw e at h) in
    let is = rest.is_base in
    record {
      base = line ∷ rest.base;
      steps = rest.steps;
      whole = ap (λ (behind : List (List ℕ)). line ∷ behind) rest.whole;
      is_base = record {
        items = line ∷ is.items;
        end = is.end;
        whole = ap (λ (behind : List (List ℕ)). line ∷ behind) is.whole;
        are_items = (e, is.are_items);
        is_ended = is.is_ended;
      };
      read = rest.read;
    }

-- a file that has come to its steps
base_read : (run : Option (List ℕ)) (n : ℕ) (m : List ℕ) (lines : List (List ℕ)) (to : Order) → has_steps to.part ≡ true → lines_read (in_base run n m) lines ≡ Some to → BaseRead run n m lines to
base_read run n m [] to whole h =
    absurd (let e : to ≡ in_base run n m = cc in let bad : false ≡ true = ap (λ (o : Order). has_steps o.part) (sym e) ∙ whole in cc)
base_read run n m (line ∷ lines) to whole h = one_item (is_end line) run n m line lines to refl h (λ rest. base_read run n m lines to whole rest)

items_back : (run : Option (List ℕ)) (n : ℕ) (m : List ℕ) (items : List (List ℕ)) (end : List ℕ) (steps : List (List ℕ)) (to : Option Order)
    → AllByRecursion (λ line. is_end line ≡ false) items → is_end end ≡ true → lines_read (in_steps run n m) steps ≡ to
    → lines_read (in_base run n m) ((items ++ end ∷ []) ++ steps) ≡ to
unfolding kind_of after
items_back run n m [] end steps to are ended read = rw ended read
items_back run n m (line ∷ items) end steps to are ended read = rw are.0 (items_back run n m items end steps to are.1 ended read)

-- ---- what stands behind the link text

record RestRead (is_start : Bool) (run : Option (List ℕ)) (n : ℕ) (m : List ℕ) (lines : List (List ℕ)) (to : Order) : Type 0 where
  base : List (List ℕ)
  steps : List (List ℕ)
  whole : lines ≡ base ++ steps
  has_base : HasBase is_start base
  read : StepsRead run n m steps to

rest_read : (is_start : Bool) (run : Option (List ℕ)) (n : ℕ) (m : List ℕ) (lines : List (List ℕ)) (to : Order) → has_steps to.part ≡ true
    → lines_read (behind_text is_start run n m) lines ≡ Some to → RestRead is_start run n m lines to
rest_read true run n m lines to whole h = record { base = []; steps = lines; whole = refl; has_base = refl; read = steps_read run n m lines to h }
rest_read false run n m lines to whole h =
    let b = base_read run n m lines to whole h in
    record { base = b.base; steps = b.steps; whole = b.whole; has_base = b.is_base; read = b.read }

rest_back : (is_start : Bool) (run : Option (List ℕ)) (n : ℕ) (m : List ℕ) (base steps : List (List ℕ)) (next : ℕ) (last : List ℕ)
    → HasBase is_start base → AreSteps n m steps next last → lines_read (behind_text is_start run n m) (base ++ steps) ≡ Some (in_steps run next last)
rest_back true run n m base steps next last has are = rw has (steps_back run n m steps next last are)
rest_back false run n m base steps next last has are =
    rw has.whole (items_back run n m has.items has.end steps (Some (in_steps run next last)) has.are_items has.is_ended (steps_back run n m steps next last are))

-- ---- the link text

record TextRead (run : Option (List ℕ)) (n : ℕ) (m : List ℕ) (lines : List (List ℕ)) (to : Order) : Type 0 where
  text : List (List ℕ)
  mark : List ℕ
  behind : List (List ℕ)
  whole : lines ≡ text ++ mark ∷ behind
  is_text : IsText text
  is_marked : is_mark mark ≡ true
  rest : RestRead (n == 0) run n m behind to

one_text : (marked : Bool) (run : Option (List ℕ)) (n : ℕ) (m line : List ℕ) (lines : List (List ℕ)) (to : Order) → has_steps to.part ≡ true → is_mark line ≡ marked
    → lines_read (in_text run n m) (line ∷ lines) ≡ Some to
    → (lines_read (in_text run n m) lines ≡ Some to → TextRead run n m lines to)
    → TextRead run n m (line ∷ lines) to
unfolding kind_of after
one_text true run n m line lines to whole e h more =
    record { text = []; mark = line; behind = lines; whole = refl; is_text = tt; is_marked = e; rest = rest_read (n == 0) run n m lines to whole (rw e at h) }
one_text false run n m line lines to whole e h more =
    let rest = more (rw e at h) in
    record {
      text = line ∷ rest.text;
      mark = rest.mark;
      behind = rest.behind;
      whole = ap (λ (behind : List (List ℕ)). line ∷ behind) rest.whole;
      is_text = (e, rest.is_text);
      is_marked = rest.is_marked;
      rest = rest.rest;
    }

-- a file that has come to its steps
text_read : (run : Option (List ℕ)) (n : ℕ) (m : List ℕ) (lines : List (List ℕ)) (to : Order) → has_steps to.part ≡ true → lines_read (in_text run n m) lines ≡ Some to → TextRead run n m lines to
text_read run n m [] to whole h =
    absurd (let e : to ≡ in_text run n m = cc in let bad : false ≡ true = ap (λ (o : Order). has_steps o.part) (sym e) ∙ whole in cc)
text_read run n m (line ∷ lines) to whole h =
    one_text (is_mark line) run n m line lines to whole refl h (λ rest. text_read run n m lines to whole rest)

text_back : (run : Option (List ℕ)) (n : ℕ) (m : List ℕ) (text : List (List ℕ)) (mark : List ℕ) (behind : List (List ℕ)) (to : Option Order)
    → IsText text → is_mark mark ≡ true → lines_read (behind_text (n == 0) run n m) behind ≡ to → lines_read (in_text run n m) (text ++ mark ∷ behind) ≡ to
unfolding kind_of after
text_back run n m [] mark behind to is marked read = rw marked read
text_back run n m (line ∷ text) mark behind to is marked read = rw is.0 (text_back run n m text mark behind to is.1 marked read)

-- ---- the head

whole_of : (head : List ℕ) (lines text : List (List ℕ)) (mark : List ℕ) (behind base steps : List (List ℕ)) → lines ≡ text ++ mark ∷ behind → behind ≡ base ++ steps
    → head ∷ lines ≡ head ∷ (text ++ mark ∷ (base ++ steps))
whole_of head lines text mark behind base steps w b = rw (w, b) refl

of_head : (goes : Bool) (o : Order) (head : List ℕ) (lines : List (List ℕ)) (run : List ℕ) (first : ℕ) (to : Order) → has_steps to.part ≡ true
    → head_in head ≡ Some (run, first) → goes_on o.run o.next run first ≡ goes → lines_read (at_head o) (head ∷ lines) ≡ Some to → IsFile o (head ∷ lines) to
unfolding kind_of after
of_head true o head lines run first to whole e g h =
    let t = text_read (Some run) first o.moment lines to whole (rw (e, g, e) at h) in
    let r = t.rest in
    record {
      head = head;
      text = t.text;
      mark = t.mark;
      base = r.base;
      steps = r.steps;
      run = run;
      first = first;
      whole = whole_of head lines t.text t.mark t.behind r.base r.steps t.whole r.whole;
      named = e;
      goes = g;
      is_text = t.is_text;
      is_marked = t.is_marked;
      has_base = r.has_base;
      are_steps = r.read.steps;
      known = (ap (λ (x : Order). x.part) r.read.same, ap (λ (x : Order). x.run) r.read.same);
    }
of_head false o head lines run first to whole e g h = absurd (let bad : None ≡ Some to = rw (e, g) at h in cc)

by_head : (found : Option (List ℕ × ℕ)) (o : Order) (head : List ℕ) (lines : List (List ℕ)) (to : Order) → has_steps to.part ≡ true
    → head_in head ≡ found → lines_read (at_head o) (head ∷ lines) ≡ Some to → IsFile o (head ∷ lines) to
unfolding kind_of after
by_head None o head lines to whole e h = absurd (let bad : None ≡ Some to = rw e at h in cc)
by_head (Some found) o head lines to whole e h = of_head (goes_on o.run o.next found.0 found.1) o head lines found.0 found.1 to whole e refl h

by_lines : (file : List (List ℕ)) (o to : Order) → has_steps to.part ≡ true → lines_read (at_head o) file ≡ Some to → IsFile o file to
by_lines [] o to whole h = absurd (let e : to ≡ at_head o = cc in let bad : false ≡ true = ap (λ (x : Order). has_steps x.part) (sym e) ∙ whole in cc)
by_lines (head ∷ lines) o to whole h = by_head (head_in head) o head lines to whole refl h

whole_only : (steps : Bool) (q to : Order) → has_steps q.part ≡ steps → (if steps then Some q else None) ≡ Some to → (q ≡ to) × (has_steps to.part ≡ true)
whole_only true q to e h = let same : q ≡ to = cc in (same, ap (λ (x : Order). has_steps x.part) (sym same) ∙ e)
whole_only false q to e h = absurd (let bad : None ≡ Some to = h in cc)

by_read : (read : Option Order) (file : List (List ℕ)) (o to : Order) → lines_read (at_head o) file ≡ read → if_whole read ≡ Some to → IsFile o file to
by_read None file o to e h = absurd (let bad : None ≡ Some to = h in cc)
by_read (Some q) file o to e h =
    let both = whole_only (has_steps q.part) q to refl h in
    by_lines file o to both.1 (e ∙ ap (λ (x : Order). Some x) both.0)

pub in_order : (o : Order) (file : List (List ℕ)) (to : Order) → file_read o file ≡ Some to → IsFile o file to
in_order o file to h = by_read (lines_read (at_head o) file) file o to refl h

-- ---- and back

head_back : (o : Order) (head : List ℕ) (lines : List (List ℕ)) (run : List ℕ) (first : ℕ) (to : Option Order) → head_in head ≡ Some (run, first) → goes_on o.run o.next run first ≡ true
    → lines_read (in_text (Some run) first o.moment) lines ≡ to → lines_read (at_head o) (head ∷ lines) ≡ to
unfolding kind_of after
head_back o head lines run first to e g h = rw (e, g, e) h

rebuilt : (to : Order) (run : List ℕ) → to.part ≡ parts.Steps → to.run ≡ Some run → in_steps (Some run) to.next to.moment ≡ to
rebuilt to run p r =
    ap (λ (x : Option (List ℕ)). in_steps x to.next to.moment) (sym r) ∙ ap (λ x. record { part = x; run = to.run; next = to.next; moment = to.moment }) (sym p)

pub read_again : (o : Order) (file : List (List ℕ)) (to : Order) → IsFile o file to → file_read o file ≡ Some to
read_again o file to f =
    let ends : Option Order = Some (in_steps (Some f.run) to.next to.moment) in
    let rest = rest_back (f.first == 0) (Some f.run) f.first o.moment f.base f.steps to.next to.moment f.has_base f.are_steps in
    let text = text_back (Some f.run) f.first o.moment f.text f.mark (f.base ++ f.steps) ends f.is_text f.is_marked rest in
    let lines = head_back o f.head (f.text ++ f.mark ∷ (f.base ++ f.steps)) f.run f.first ends f.named f.goes text in
    ap (λ (x : List (List ℕ)). if_whole (lines_read (at_head o) x)) f.whole ∙ ap if_whole lines ∙ ap (λ (x : Order). Some x) (rebuilt to f.run f.known.0 f.known.1)
