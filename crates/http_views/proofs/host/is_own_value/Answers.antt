use Rattle.std.proofs.Common.{◌≡◌, List, ℕ, true, false, inl, inr, refl, rules}
use Rattle.std.proofs.lemmas.Bool.{cases_Bool}
use Rattle.std.proofs.lemmas.List.Sums.{AllPass-from_list_all, list_all-from_AllPass}
use Rattle.http_header.specs.Token.{is_visible_or_blank}
use Rattle.http_header.specs.FieldValue.{is_visible_text, IsVisibleAscii}
use Rattle.http_views.specs.Hosts.{is_own_host}
use Rattle.http_views.proofs.host.is_own_value.Goals as goal

visible : (bytes : List ℕ) → IsVisibleAscii bytes → is_visible_text bytes ≡ true
visible bytes h = list_all-from_AllPass is_visible_or_blank bytes h

hidden : (bytes : List ℕ) → ¬ (IsVisibleAscii bytes) → is_visible_text bytes ≡ false
hidden bytes h =
    elim (cases_Bool (is_visible_text bytes)) [
      | inl seen ↦ absurd (h (AllPass-from_list_all is_visible_or_blank bytes seen))
      | inr none ↦ none
    ]

pub returns-in-Ok : goal.returns-in-Ok
returns-in-Ok c =
    let ok : c.is_own_host.result ≡ is_own_host c.args.own.now c.args.value.now.bytes = search rules in
    let seen : is_visible_text c.args.value.now.bytes ≡ true = visible c.args.value.now.bytes (search rules) in
    rw seen ok

pub returns-in-Err : goal.returns-in-Err
returns-in-Err c =
    let none : is_visible_text c.args.value.now.bytes ≡ false = hidden c.args.value.now.bytes (search rules) in
    rw none refl
