-- `put_accepted` meets its contract. Assumes nothing.
use Prim.Native.Nat.{◌+◌, ◌≤◌}
use mathlib.Core.List.{[], ◌∷◌}
use native.Mathlib.Omega.{arith}
use lib.ListN.{length}
use Rattle.lines.specs.Line.{put_ok, text_line}
use Rattle.lines.proofs.Most.{one-most}
use Rattle.lines.proofs.Writing.{Left, left_word, left-number, number_fits, left-feed, feed-fits}
use Rattle.lines.proofs.put_accepted.Goals as goal

pub put_spaced-q-requires : goal.put_spaced-q-requires
put_spaced-q-requires c =
    let room : c.args.at + length (text_line put_ok (c.args.n ∷ [])) ≤ length c.args.a.now = let s = c in omega (arith, s.requires, one-most put_ok s.args.n (omega arith) s.ranges.n.fits) in
    let left-1 : Left c.args.a.now c.put_word-p.new.a c.args.at (text_line put_ok (c.args.n ∷ [])) c.put_word-p.result (text_line [] (c.args.n ∷ [])) = left_word put_ok (c.args.n ∷ []) (record { is = c.put_word-p.ensures.0; past = c.put_word-p.ensures.1 }) in
    number_fits c.args.n [] left-1 room

pub bounds-a-q : goal.bounds-a-q
bounds-a-q c =
    let room : c.args.at + length (text_line put_ok (c.args.n ∷ [])) ≤ length c.args.a.now = let s = c in omega (arith, s.requires, one-most put_ok s.args.n (omega arith) s.ranges.n.fits) in
    let left-1 : Left c.args.a.now c.put_word-p.new.a c.args.at (text_line put_ok (c.args.n ∷ [])) c.put_word-p.result (text_line [] (c.args.n ∷ [])) = left_word put_ok (c.args.n ∷ []) (record { is = c.put_word-p.ensures.0; past = c.put_word-p.ensures.1 }) in
    let left-2 : Left c.args.a.now c.put_spaced-q.new.a c.args.at (text_line put_ok (c.args.n ∷ [])) c.put_spaced-q.result (text_line [] []) = left-number c.args.n [] left-1 c.put_spaced-q.ensures in
    feed-fits left-2 room

pub overflow_add-result : goal.overflow_add-result
overflow_add-result c =
    let room : c.args.at + length (text_line put_ok (c.args.n ∷ [])) ≤ length c.args.a.now = let s = c in omega (arith, s.requires, one-most put_ok s.args.n (omega arith) s.ranges.n.fits) in
    let left-1 : Left c.args.a.now c.put_word-p.new.a c.args.at (text_line put_ok (c.args.n ∷ [])) c.put_word-p.result (text_line [] (c.args.n ∷ [])) = left_word put_ok (c.args.n ∷ []) (record { is = c.put_word-p.ensures.0; past = c.put_word-p.ensures.1 }) in
    let left-2 : Left c.args.a.now c.put_spaced-q.new.a c.args.at (text_line put_ok (c.args.n ∷ [])) c.put_spaced-q.result (text_line [] []) = left-number c.args.n [] left-1 c.put_spaced-q.ensures in
    omega (arith, feed-fits left-2 room)

pub returns : goal.returns
returns c =
    let left-1 : Left c.args.a.now c.put_word-p.new.a c.args.at (text_line put_ok (c.args.n ∷ [])) c.put_word-p.result (text_line [] (c.args.n ∷ [])) = left_word put_ok (c.args.n ∷ []) (record { is = c.put_word-p.ensures.0; past = c.put_word-p.ensures.1 }) in
    let left-2 : Left c.args.a.now c.put_spaced-q.new.a c.args.at (text_line put_ok (c.args.n ∷ [])) c.put_spaced-q.result (text_line [] []) = left-number c.args.n [] left-1 c.put_spaced-q.ensures in
    let s = c in record { wrote = left-feed left-2; most = one-most put_ok s.args.n (omega arith) s.ranges.n.fits }
