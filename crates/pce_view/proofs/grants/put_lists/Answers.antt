use Rattle.std.proofs.Common.{◌≡◌, ℕ, List, Option, ◌++◌, subst}
use Rattle.json.specs.Json.{array}
use Rattle.json.specs.Tree.{json_tokens}
use Rattle.pce_view.specs.Grants.{deletion_items, grant_items}
use Rattle.pce_view.proofs.Objects.{ends_with_two}
use Rattle.pce_view.proofs.grants.put_lists.Goals as goal

pub returns-clause-written : goal.returns-clause-written
returns-clause-written c =
    ends_with_two _ _ _ _ _ _ _ _ (array (grant_items c.args.now_ms c.args.heard.now.grants_since_ms.items 0 c.args.page.now.grants.items))
    (array (deletion_items c.args.now_ms c.args.heard.now.deletions_since_ms.items 0 c.args.page.now.deletions.items))
    c.in_ok-key.ensures.ok
    (subst (λ (since : List (Option ℕ)). c.put_grants.new.writer.tokens ≡ c.key.new.self.tokens ++ json_tokens (array (grant_items c.args.now_ms since 0 c.args.page.now.grants.items))) c.deref.ensures.value (rw c.deref-2.ensures.value at c.in_ok-put_grants.ensures.written))
    c.in_ok-key-2.ensures.ok
    (subst (λ (since : List (Option ℕ)). c.put_deletions.new.writer.tokens ≡ c.key-2.new.self.tokens ++ json_tokens (array (deletion_items c.args.now_ms since 0 c.args.page.now.deletions.items))) c.deref-3.ensures.value (rw c.deref-4.ensures.value at c.in_ok-put_deletions.ensures.written))
    c.in_ok-end_object.ensures.ok
