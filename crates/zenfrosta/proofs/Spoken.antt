-- A host reads the words that were told. Assumes nothing.
use Prim.Native.Nat.{ℕ, ◌^◌, ◌≤◌, ◌<◌}
use native.Mathlib.Omega.{arith}
use mathlib.Core.Path.{◌≡◌, subst, ◌∙◌}
use mathlib.Core.List.{List}
use lib.ListN.{length}
use Rattle.words.specs.Words.{word_at, put_word}
use Rattle.words.proofs.Laws.{length-put_word, word_at-put_word-same, word_at-put_word-other}
use Rattle.zenfrosta.specs.Crossing.{spoken, words_in, Spoken}
use Rattle.zenfrosta.specs.declared.Four.{Four}

pub spoken-read : (out : List ℕ) (w : Four) → 32 ≤ length out → w.a < 2 ^ 64 → w.b < 2 ^ 64 → w.c < 2 ^ 64 → w.d < 2 ^ 64 → words_in (spoken out w) ≡ w
unfolding spoken
spoken-read out w room a b c d =
    let o₁ = put_word out 0 w.a in
    let o₂ = put_word o₁ 1 w.b in
    let o₃ = put_word o₂ 2 w.c in
    let l₁ = length-put_word out 0 w.a in
    let l₂ = length-put_word o₁ 1 w.b in
    let l₃ = length-put_word o₂ 2 w.c in
    let e₀ : word_at (put_word o₃ 3 w.d) 0 ≡ w.a =
    word_at-put_word-other o₃ 3 0 w.d (λ h. omega arith) ∙ word_at-put_word-other o₂ 2 0 w.c (λ h. omega arith) ∙ word_at-put_word-other o₁ 1 0 w.b (λ h. omega arith)
    ∙ word_at-put_word-same out 0 w.a (omega arith) a in
    let e₁ : word_at (put_word o₃ 3 w.d) 1 ≡ w.b =
    word_at-put_word-other o₃ 3 1 w.d (λ h. omega arith) ∙ word_at-put_word-other o₂ 2 1 w.c (λ h. omega arith) ∙ word_at-put_word-same o₁ 1 w.b (omega (arith, l₁)) b in
    let e₂ : word_at (put_word o₃ 3 w.d) 2 ≡ w.c =
    word_at-put_word-other o₃ 3 2 w.d (λ h. omega arith) ∙ word_at-put_word-same o₂ 2 w.c (omega (arith, l₁, l₂)) c in
    let e₃ : word_at (put_word o₃ 3 w.d) 3 ≡ w.d = word_at-put_word-same o₃ 3 w.d (omega (arith, l₁, l₂, l₃)) d in
    rw (e₀, e₁, e₂, e₃)

pub told-as : (out out' : List ℕ) (w v : Four) → w ≡ v → Spoken out w out' → Spoken out v out'
told-as out out' w v e = subst (λ (x : Four). Spoken out x out') e
