-- What the two stores leave. Assumes nothing.
use Prim.Native.Nat.{ℕ, ◌+◌, ◌-◌, ◌*◌, ◌≤◌, ◌<◌}
use mathlib.Core.Path.{◌≡◌, refl, sym, ap, ◌∙◌}
use mathlib.Core.Bool.{true}
use mathlib.Core.List.{List}
use mathlib.Core.Option.{none, some}
use native.Mathlib.Omega.{arith}
use borrow.Author.Tests.{eq-eqb, ne_eqb}
use borrow.Rule.Slice.PartMut.{put_mid}
use lib.ListN.{length, drop}
use lib.Seq.{drop-drop}
use Rattle.words.specs.Words.{word_at, put_word}
use Rattle.words.proofs.Laws.{length-put_word, word_at-put_word-same, word_at-put_word-other, drop-put_word}
use Rattle.rules.specs.State.{Setting}
use Rattle.rules.specs.Setup.{Setup}
use Rattle.plan.specs.Judge.{known_format}
use Rattle.plan.specs.Accepted.{present}
use Rattle.plan_writer.specs.Write.{Planned}
use Rattle.plan_area.specs.Area.{plan_in, ShowsPlan}
use Rattle.plan_area.proofs.Shown.{shows-plan}
use Rattle.editions.specs.Part.{PartRoom, part_bytes, last_in, new_in, plan_of, waiting_in, Fits, Stores}
use Rattle.editions.proofs.Lent.{lent-tail, lent-front, word-before}

-- ---- the page that waits

pub waits-none : (p : List ℕ) → new_in p ≡ 0 → waiting_in p ≡ none
unfolding waiting_in
waits-none p e = rw (eq-eqb (new_in p) 0 e)

pub waits-some : (p : List ℕ) → (new_in p ≡ 0 → ⊥) → waiting_in p ≡ some (record { edition = new_in p; settings = (plan_of p).lanes })
unfolding waiting_in
waits-some p ne = rw (ne_eqb (new_in p) 0 ne)

-- ---- a page came into force

pub taken-stored : (p q r : List ℕ) (n : ℕ) → PartRoom p → n < 65536 → q ≡ put_word p 0 n → r ≡ put_word q 1 0 → Stores p r n none × Fits r
taken-stored p q r n room small e f =
    let last : last_in r ≡ n = ap (λ (l : List ℕ). word_at l 0) f ∙ word_at-put_word-other q 1 0 0 (λ z. omega (arith, z)) ∙ ap (λ (l : List ℕ). word_at l 0) e ∙ word_at-put_word-same p 0 n (omega arith) (omega arith) in
    let new : new_in r ≡ 0 = ap (λ (l : List ℕ). word_at l 1) f ∙ word_at-put_word-same q 1 0 (omega (arith, ap length e, length-put_word p 0 n)) (omega arith) in
    let fits : Fits r = record { last = omega arith; new = omega arith; format = λ ne. absurd (ne new) } in (
      record {
        last = last;
        waiting = waits-none r new;
        fits = λ g. fits;
        rest = ap (drop part_bytes) f ∙ drop-put_word 67 q 1 0 (omega arith) ∙ ap (drop part_bytes) e ∙ drop-put_word 67 p 0 n (omega arith);
      },
      fits,
    )

-- ---- a page waits

module _ (p q a : List ℕ) (n : ℕ) (room : PartRoom p) (e : q ≡ put_word p 1 n) where
  abbrev r : List ℕ
  r = put_mid 16 (length q - 16) q a

  pub long : length q ≡ length p
  long = ap length e ∙ length-put_word p 1 n

  module _ (low : 0 < n) (small : n < 65536) (v : ℕ) (gs : List Setting) (m : ℕ) (known : known_format v ≡ true) (setup : Setup gs)
      (shows : ShowsPlan (record { format = v; lanes = gs; count = m }) a) (rest : drop (65 * 8) a ≡ drop (65 * 8) (drop 16 q)) where
    tail : drop 16 r ≡ a
    tail = lent-tail 16 q a (omega (arith, long))

    front : (j : ℕ) → j * 8 + 8 ≤ 16 → word_at r j ≡ word_at q j
    front = word-before 16 q r (lent-front 16 q a (omega (arith, long)))

    plan-is : plan_of r ≡ record { format = v; lanes = gs; count = present gs }
    plan-is =
        ap plan_in tail
        ∙ shows-plan (record { format = v; lanes = gs; count = present gs }) a (record { format = known; setup = setup; count = refl }) (record { head = shows.head; lane = shows.lane })

    new_is : new_in r ≡ n
    new_is = front 1 (omega arith) ∙ ap (λ (l : List ℕ). word_at l 1) e ∙ word_at-put_word-same p 1 n (omega arith) (omega arith)

    last-is : last_in r ≡ last_in p
    last-is = front 0 (omega arith) ∙ ap (λ (l : List ℕ). word_at l 0) e ∙ word_at-put_word-other p 1 0 n (λ z. omega (arith, z))

    pub waiting-stored : Stores p r (last_in p) (some (record { edition = n; settings = gs }))
    waiting-stored = record {
      last = last-is;
      waiting =
          waits-some r (λ z. omega (arith, new_is))
          ∙ ap (λ (x : ℕ). some (record { edition = x; settings = (plan_of r).lanes })) new_is
          ∙ ap (λ (x : Planned). some (record { edition = n; settings = x.lanes })) plan-is;
      fits = λ g. record { last = omega (arith, last-is, g.last); new = omega (arith, new_is); format = λ ne. ap (λ (x : Planned). known_format x.format) plan-is ∙ known };
      rest =
          sym (drop-drop (65 * 8) 16 r)
          ∙ ap (drop (65 * 8)) tail
          ∙ rest
          ∙ drop-drop (65 * 8) 16 q
          ∙ ap (drop part_bytes) e
          ∙ drop-put_word 67 p 1 n (omega arith);
    }
