-- What a host knows by zf_convert's result. Assumes nothing.
use Prim.Native.Nat.{ℕ, ◌≤◌, ◌<◌}
use native.Mathlib.Omega.{arith}
use mathlib.Core.Path.{◌≡◌, refl, sym, ap, subst, ◌∙◌}
use mathlib.Core.Logic.{◌⊎◌, inl, inr}
use mathlib.Core.List.{List}
use lib.ListN.{length}
use Rattle.words.proofs.Runs.{le-or-lt}
use Rattle.rules.specs.Calls.{Reply, take}
use Rattle.rules.specs.Reads.{reads}
use Rattle.rules.specs.declared.Refusal.{Refusal}
use Rattle.table.specs.Layout.{table_size}
use Rattle.old_table.specs.Old.{OldTable}
use Rattle.convert.specs.Converts.{TakenOver, Converts, convert_reply}
use Rattle.convert.specs.Takes.{OldTakes, old_done, old_then, refuses, takes, UntilTen}
use Rattle.convert.proofs.Takes.{Along, along-over, along-take}
use Rattle.zenfrosta.specs.Crossing.{code, values, words_in}
use Rattle.zenfrosta.specs.Heard.{heard}
use Rattle.zenfrosta.specs.Old.{convert_code, HeardTakes, nothing, short, whole, GoesOn, HostConverts}
use Rattle.zenfrosta.proofs.Heard.{heard-back}
use Rattle.zenfrosta.proofs.HostMakes.{number-not-0}
use Rattle.std.specs.Prelude.{Result}
use Rattle.std.specs.Prelude.{Ok}
use Rattle.std.specs.Prelude.{Err}

-- what the host hears of takes is what they answered, and so as from the old table
heard-takes : {t t' u u' : List ℕ} {rs qs : List Reply} → Along t u → OldTakes t rs t' → HeardTakes u qs u' → UntilTen rs qs
unfolding UntilTen
heard-takes p old_done new = tt
heard-takes p (old_then x more) nothing = tt
heard-takes {t} p (old_then x more) (short h y rest) = heard-takes (subst (Along t) (sym (y.short h).1) p) (old_then x more) rest
heard-takes p (old_then (refuses bad) more) (whole h y rest) = inl refl
heard-takes {t} {u = u} p (old_then {u = t₁} (takes g after) more) (whole {u = u₁} {out' = out'} {r = r} h y rest) =
    let told = y.told h in
    let one = along-take t u t₁ u₁ p (reads told.0) g after told.1 in
    let back : heard take (code (reads told.0)) (values (reads told.0)) ≡ reads told.0
    = subst (λ (x : Reply). heard take (code x) (values x) ≡ x) (sym one.by_rules) (heard-back p.state one.good take) in
    let hears : heard take r (words_in out') ≡ reads told.0
    = ap (λ (n : ℕ). heard take n (words_in out')) told.2 ∙ ap (heard take (code (reads told.0))) told.3.read ∙ back in
    inr (one.same ∙ sym hears, heard-takes one.next more rest)

module _ (old before after : List ℕ) where
  done : Converts old before (Ok tt) after → GoesOn old before after
  done c =
      let g = c.was_good refl in
      let over = by-room g (le-or-lt table_size (length before)) in
      record {
        was_good = g;
        over = over;
        takes = λ rs qs u v x y. heard-takes (along-over old before after over) x y;
      }
    where
      by-room : OldTable old → (table_size ≤ length before) ⊎ (length before < table_size) → TakenOver old before after
      by-room g (inl h) = (c.converts h g).1
      by-room g (inr h) = let is = (c.short h).0 in let z : ◌≡◌ {A = ℕ} 0 1 = cc in absurd (omega arith)

  stays : (x : Refusal) → Converts old before (Err x) after → after ≡ before
  stays x c = by-room (le-or-lt table_size (length before))
    where
      bad : table_size ≤ length before → OldTable old → ⊥
      bad h g = let is = (c.converts h g).0 in let z : ◌≡◌ {A = ℕ} 0 1 = cc in absurd (omega arith)

      by-room : (table_size ≤ length before) ⊎ (length before < table_size) → after ≡ before
      by-room (inl h) = (c.not_good h (bad h)).1
      by-room (inr h) = (c.short h).1

pub host-converts : HostConverts
unfolding HostConverts
host-converts old before after out out' r x = (when-done, when-refused)
  where
    goes_on : (a : Result (Unit {0}) Refusal) → Converts old before a after → convert_code (convert_reply a) ≡ 0 → GoesOn old before after
    goes_on (Ok u) c e = done old before after c
    goes_on (Err y) c e = absurd (number-not-0 y e)

    unchanged : (a : Result (Unit {0}) Refusal) → Converts old before a after → (convert_code (convert_reply a) ≡ 0 → ⊥) → after ≡ before
    unchanged (Ok u) c ne = absurd (ne refl)
    unchanged (Err y) c ne = stays old before after y c

    when-done : r ≡ 0 → GoesOn old before after
    when-done zero = go (le-or-lt 32 (length out))
      where
        go : (32 ≤ length out) ⊎ (length out < 32) → GoesOn old before after
        go (inl h) = let told = x.told h in goes_on told.0 told.1 (sym told.2 ∙ zero)
        go (inr h) = let s = (x.short h).0 in absurd (omega (arith, s, zero))

    when-refused : (r ≡ 0 → ⊥) → after ≡ before
    when-refused ne = go (le-or-lt 32 (length out))
      where
        go : (32 ≤ length out) ⊎ (length out < 32) → after ≡ before
        go (inl h) = let told = x.told h in unchanged told.0 told.1 (λ e. ne (told.2 ∙ e))
        go (inr h) = (x.short h).1
