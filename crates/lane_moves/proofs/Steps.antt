-- From what `add`, `close` and `refile` call to what they leave. Assumes nothing.
use mathlib.Core.Path.{◌≡◌, sym, ap, subst, ◌∙◌}
use mathlib.Core.Bool.{true, false, false≢true}
use mathlib.Core.Logic.{◌⊎◌, inl, inr, ⊎_elim}
use mathlib.Core.Option.{some}
use Prim.Native.Nat.{ℕ, ◌+◌, ◌*◌, ◌/◌, ◌%◌, ◌^◌, ◌≤◌, ◌<◌}
use mathlib.Core.List.{List, [], ◌∷◌, ◌++◌}
use native.Mathlib.Omega.{arith}
use borrow.Author.Tests.{ne_eqb, lt-leb, le-leb}
use lib.ListN.{length, drop, length-append, length-drop}
use lib.Pow.{pow_pos}
use Rattle.words.specs.Bits.{bit}
use Rattle.words.specs.Words.{word_at}
use Rattle.words.proofs.Bits.{bit-above}
use Rattle.words.proofs.Runs.{eq-or-ne}
use Rattle.rules.specs.Choice.{least}
use Rattle.slot_lists.specs.Lists.{start_word, groups_at, map_of, list_in, list_at, start_at, Solid}
use Rattle.slot_lists.specs.Changes.{ListMoved, Apart, GroupStored}
use Rattle.slot_lists.proofs.Store.{stored-then}
use Rattle.slot_lists.proofs.Laws.{list_on, list-off, list-some, some-bit, start-on, start-off}
use Rattle.filing.specs.Filing.{Lists, never}
use Rattle.filing.proofs.Moves.{Changed}
use Rattle.lane_moves.specs.Moves.{slot_of, list_of, Added, Onward, nowhere, onto, TellsReached, Closing, empty, onward, Refiled}
use Rattle.lane_moves.proofs.Views.{under, under-here, own-changed, Nearly, solid-nearly, same_start, moved-changed, moved-nearly, moved_apart, stored-solid, then-stored}

apart-then : (t u v : List ℕ) → Apart t u → Apart u v → Apart t v
apart-then t u v a b = record { below = λ j h. b.below j h ∙ a.below j h; back = b.back ∙ a.back; rest = b.rest ∙ a.rest }

-- a list that a lane has joined is marked
pub joined : (t u l : List ℕ) (g m m' b k : ℕ) → ListMoved t u g m m' b (l ++ (k ∷ [])) → 0 < m'
joined t u l g m m' b k v = some-bit b m' (list-some u g m' b (rw v.list (simp length-append (omega arith))))

-- a list has room for the lane that left the group, also where it is the one that the lane left
pub rooms-after : (t u : List ℕ) (g m m' b c : ℕ) → m ≡ map_of t g → ListMoved t u g m m' b (drop 1 (list_in t g m b)) → c < 32
    → 0 < length (list_at t g b) → length (list_at t g b) < 65 → ((c ≡ b → ⊥) → length (list_at t g c) < 64) → length (list_in u g m' c) < 64
rooms-after t u g m m' b c em v hc pos most other =
    ⊎_elim
    (λ (e : c ≡ b).
    subst (λ (c : ℕ). length (list_in u g m' c) < 64) (sym e)
    (rw v.list (simp length-drop (omega (arith, pos, most, ap (λ (n : ℕ). length (list_in t g n b)) em)))))
    (λ (ne : c ≡ b → ⊥). rw (v.others c hc ne) (omega (arith, other ne, ap (λ (n : ℕ). length (list_in t g n c)) em)))
    (eq-or-ne c b)

-- ---- a group's words, one after the other

pub marked : (t u : List ℕ) (g m x : ℕ) → 0 < m → GroupStored t u g m x → (bit g (groups_at u) ≡ 1) × (0 < map_of u g)
marked t u g m x pos w = (w.group ∙ rw (ne_eqb m 0 (λ z. omega arith)), rw w.map pos)

pub then-start : (t u w : List ℕ) (g m x r : ℕ) → GroupStored t u g m x → GroupStored u w g (map_of u g) r → GroupStored t w g m r
then-start t u w g m x r a b = stored-then t u w g m r x a (subst (λ (n : ℕ). GroupStored u w g n r) a.map b)

-- ---- the start of a group that a lane joins

pub start_first : (t : List ℕ) (g r : ℕ) → (bit g (groups_at t) ≡ 1 → ⊥) → some r ≡ least r (start_at t g)
start_first t g r e = sym (ap (least r) (start-off t g e))

pub start-old : (t : List ℕ) (g r x : ℕ) → bit g (groups_at t) ≡ 1 → x ≡ word_at t (start_word g) → x ≤ r → some x ≡ least r (start_at t g)
start-old t g r x e ex h =
    sym
    (ap (least r) (start-on t g e ∙ ap some (sym ex))
    ∙ ⊎_elim (λ (q : x ≡ r). rw (le-leb r x (omega arith)) (ap some (sym q))) (λ (ne : x ≡ r → ⊥). rw (lt-leb r x (omega (arith, ne)))) (eq-or-ne x r))

pub start-new : (t : List ℕ) (g r x : ℕ) → bit g (groups_at t) ≡ 1 → x ≡ word_at t (start_word g) → r < x → some r ≡ least r (start_at t g)
start-new t g r x e ex h = sym (ap (least r) (start-on t g e ∙ ap some (sym ex)) ∙ rw (le-leb r x (omega arith)))

module _ (t : List ℕ) (g : ℕ) (solid : Solid t) (lo : 16 ≤ g) (hi : g ≤ 31) (m₀ : ℕ) (em : m₀ ≡ map_of t g) where
  nearly : Nearly t g m₀
  nearly = subst (Nearly t g) (sym em) (solid-nearly t g lo hi solid)

  from-own : (lists : Lists) (b : ℕ) (l : List ℕ) → Changed (under t g m₀) lists g b l → Changed (list_at t) lists g b l
  from-own lists b l c = own-changed t g b l lists (subst (λ (m : ℕ). Changed (under t g m) lists g b l) em c)

  list-own : (b : ℕ) → list_in t g m₀ b ≡ list_at t g b
  list-own b = ap (λ (m : ℕ). list_in t g m b) em

  pub add-leaves : (t₁ t' : List ℕ) (s k b m x : ℕ) → b ≡ list_of t g s → ListMoved t t₁ g m₀ m b (list_in t g m₀ b ++ (k ∷ [])) → GroupStored t₁ t' g m x
      → some x ≡ least (s / 2 ^ g * 2 ^ g) (start_at t g) → Added t t' g s k
  add-leaves t₁ t' s k b m x eb v w ex =
      record {
        apart = apart-then t t₁ t' (moved_apart t t₁ _ g m₀ m b v) w.apart;
        lists =
            subst (λ (b : ℕ). Changed (list_at t) (list_at t') g b (list_at t g b ++ (k ∷ []))) eb
            (then-stored t₁ t' g m x lo hi w (list_at t) b (list_at t g b ++ (k ∷ [])) (omega (arith, eb))
            (from-own (under t₁ g m) b (list_at t g b ++ (k ∷ [])) (subst (λ (l : List ℕ). Changed (under t g m₀) (under t₁ g m) g b (l ++ (k ∷ []))) (list-own b) (moved-changed t t₁ _ g m₀ m b v))));
        start = w.start ∙ rw (ne_eqb m 0 (λ z. omega (arith, joined t t₁ (list_in t g m₀ b) g m₀ m b k v))) ex;
        starts = λ i p q ne. w.starts i p q ne ∙ same_start t t₁ _ g m₀ m b v i q;
        solid = stored-solid t₁ t' g m x lo hi w (moved-nearly t t₁ _ g m₀ m b v nearly);
      }

  -- ---- after a lane left

  -- where the group's words were stored
  pub closed : (u t' : List ℕ) (m r b x : ℕ) → Closing u t' g m r b x → (y : ℕ) × GroupStored u t' g m y
  closed u t' m r b x (empty z e w) = (0, subst (λ (n : ℕ). GroupStored u t' g n 0) (sym z) w)
  closed u t' m r b x (onward d q pos n e tl w) = (q, w)

  closed-now : (u t' : List ℕ) (m r b x : ℕ) → Closing u t' g m r b x → (x ≡ never) ⊎ ((q : ℕ) × (start_at t' g ≡ some q) × TellsReached r q x)
  closed-now u t' m r b x (empty z e w) = inl e
  closed-now u t' m r b x (onward d q pos n e tl w) = inr (q, w.start ∙ rw (ne_eqb m 0 (λ z. omega arith)), tl)

  closed-onward : (u t' : List ℕ) (m r b x slot : ℕ) → b ≡ slot % 32 → Solid t' → Closing u t' g m r b x → Onward t' g r slot
  closed-onward u t' m r b x slot eb s (empty z e w) =
      nowhere (λ c h. list-off t' g (map_of t' g) c (λ q. omega (arith, q, ap (bit c) w.map, bit-above c 0 (pow_pos c)))) w.start
  closed-onward u t' m r b x slot eb s (onward d q pos n e tl w) =
      onto d
      (record {
        near = n.near;
        some_lane =
            let at : (b + d) % 32 ≡ (slot + d) % 32 = omega arith in
            let on : bit ((slot + d) % 32) (map_of t' g) ≡ 1 = ap (bit ((slot + d) % 32)) w.map ∙ subst (λ (c : ℕ). bit c m ≡ 1) at n.set in
            rw (list_on t' g (map_of t' g) ((slot + d) % 32) on) ((s.fills g lo hi).filled ((slot + d) % 32) (omega arith) on);
        none_before = λ j h.
            let at : (b + j) % 32 ≡ (slot + j) % 32 = omega arith in
            list-off t' g (map_of t' g) ((slot + j) % 32) (λ one. omega (arith, one, ap (bit ((slot + j) % 32)) w.map, subst (λ (c : ℕ). bit c m ≡ 0) at (n.none_before j h)));
      })
      (w.start ∙ rw (ne_eqb m 0 (λ z. omega arith)) (ap some e))

  module _ (t₁ : List ℕ) (start s k b m₁ x : ℕ) (eb : b ≡ list_of t g start) (off : ListMoved t t₁ g m₀ m₁ b (drop 1 (list_in t g m₀ b))) where
    hb : b < 32
    hb = omega (arith, eb)

    left : Changed (list_at t) (under t₁ g m₁) g (list_of t g start) (drop 1 (list_at t g (list_of t g start)))
    left =
        subst (λ (b : ℕ). Changed (list_at t) (under t₁ g m₁) g b (drop 1 (list_at t g b))) eb
        (from-own (under t₁ g m₁) b (drop 1 (list_at t g b)) (subst (λ (l : List ℕ). Changed (under t g m₀) (under t₁ g m₁) g b (drop 1 l)) (list-own b) (moved-changed t t₁ _ g m₀ m₁ b off)))

    -- it came back
    pub refile-more : (t₂ t' : List ℕ) (c m₂ : ℕ) → c ≡ list_of t g s → ListMoved t₁ t₂ g m₁ m₂ c (list_in t₁ g m₁ c ++ (k ∷ [])) → Closing t₂ t' g m₂ start b x → Refiled t t' g start s k true x
    refile-more t₂ t' c m₂ ec on cl =
        let w = closed t₂ t' m₂ start b x cl in
        let s₂ = stored-solid t₂ t' g m₂ w.0 lo hi w.1 (moved-nearly t₁ t₂ _ g m₁ m₂ c on (moved-nearly t t₁ _ g m₀ m₁ b off nearly)) in
        record {
          apart = apart-then t t₁ t' (moved_apart t t₁ _ g m₀ m₁ b off) (apart-then t₁ t₂ t' (moved_apart t₁ t₂ _ g m₁ m₂ c on) w.1.apart);
          between = under t₁ g m₁;
          off = left;
          again = λ e.
              subst (λ (c : ℕ). Changed (under t₁ g m₁) (list_at t') g c (under t₁ g m₁ g c ++ (k ∷ []))) ec
              (then-stored t₂ t' g m₂ w.0 lo hi w.1 (under t₁ g m₁) c (under t₁ g m₁ g c ++ (k ∷ [])) (omega (arith, ec))
              (subst (λ (l : List ℕ). Changed (under t₁ g m₁) (under t₂ g m₂) g c (l ++ (k ∷ []))) (sym (under-here t₁ g m₁ c)) (moved-changed t₁ t₂ _ g m₁ m₂ c on)));
          last = λ e. absurd (false≢true (sym e));
          onward = closed-onward t₂ t' m₂ start b x (slot_of t g start) eb s₂ cl;
          starts = λ i p q ne. w.1.starts i p q ne ∙ same_start t₁ t₂ _ g m₁ m₂ c on i q ∙ same_start t t₁ _ g m₀ m₁ b off i q;
          solid = s₂;
          now = closed-now t₂ t' m₂ start b x cl;
        }

    -- it holds no more
    pub refile-last : (t' : List ℕ) → Closing t₁ t' g m₁ start b x → Refiled t t' g start s k false x
    refile-last t' cl =
        let w = closed t₁ t' m₁ start b x cl in
        let s₁ = stored-solid t₁ t' g m₁ w.0 lo hi w.1 (moved-nearly t t₁ _ g m₀ m₁ b off nearly) in
        record {
          apart = apart-then t t₁ t' (moved_apart t t₁ _ g m₀ m₁ b off) w.1.apart;
          between = under t₁ g m₁;
          off = left;
          again = λ e. absurd (false≢true e);
          last = λ e. then-stored t₁ t' g m₁ w.0 lo hi w.1 (list_at t) (list_of t g start) _ (omega arith) left;
          onward = closed-onward t₁ t' m₁ start b x (slot_of t g start) eb s₁ cl;
          starts = λ i p q ne. w.1.starts i p q ne ∙ same_start t t₁ _ g m₀ m₁ b off i q;
          solid = s₁;
          now = closed-now t₁ t' m₁ start b x cl;
        }
