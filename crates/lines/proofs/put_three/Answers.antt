-- `put_three` meets its contract: a number less is left behind each call. Assumes nothing.
use native.Mathlib.Omega.{arith}
use mathlib.Core.List.{[], ◌∷◌}
use Rattle.lines.specs.Line.{text_line}
use Rattle.lines.proofs.Writing.{Left, left-whole, left-number, number_fits, left-feed, feed-fits}
use Rattle.lines.proofs.put_three.Goals as goal

pub put_spaced-p-requires : goal.put_spaced-p-requires
put_spaced-p-requires c =
    let s = c in number_fits s.args.l (s.args.m ∷ s.args.n ∷ []) (left-whole s.args.a.now s.args.at (text_line [] (s.args.l ∷ s.args.m ∷ s.args.n ∷ []))) s.requires

pub put_spaced-q-requires : goal.put_spaced-q-requires
put_spaced-q-requires c =
    let left-1 : Left c.args.a.now c.put_spaced-p.new.a c.args.at (text_line [] (c.args.l ∷ c.args.m ∷ c.args.n ∷ [])) c.put_spaced-p.result (text_line [] (c.args.m ∷ c.args.n ∷ [])) = let s = c in left-number s.args.l (s.args.m ∷ s.args.n ∷ []) (left-whole _ _ _) c.put_spaced-p.ensures in
    let s = c in number_fits s.args.m (s.args.n ∷ []) left-1 s.requires

pub put_spaced-r-requires : goal.put_spaced-r-requires
put_spaced-r-requires c =
    let left-1 : Left c.args.a.now c.put_spaced-p.new.a c.args.at (text_line [] (c.args.l ∷ c.args.m ∷ c.args.n ∷ [])) c.put_spaced-p.result (text_line [] (c.args.m ∷ c.args.n ∷ [])) = let s = c in left-number s.args.l (s.args.m ∷ s.args.n ∷ []) (left-whole _ _ _) c.put_spaced-p.ensures in
    let left-2 : Left c.args.a.now c.put_spaced-q.new.a c.args.at (text_line [] (c.args.l ∷ c.args.m ∷ c.args.n ∷ [])) c.put_spaced-q.result (text_line [] (c.args.n ∷ [])) = let s = c in left-number s.args.m (s.args.n ∷ []) left-1 c.put_spaced-q.ensures in
    let s = c in number_fits s.args.n [] left-2 s.requires

pub bounds-a-r : goal.bounds-a-r
bounds-a-r c =
    let left-1 : Left c.args.a.now c.put_spaced-p.new.a c.args.at (text_line [] (c.args.l ∷ c.args.m ∷ c.args.n ∷ [])) c.put_spaced-p.result (text_line [] (c.args.m ∷ c.args.n ∷ [])) = let s = c in left-number s.args.l (s.args.m ∷ s.args.n ∷ []) (left-whole _ _ _) c.put_spaced-p.ensures in
    let left-2 : Left c.args.a.now c.put_spaced-q.new.a c.args.at (text_line [] (c.args.l ∷ c.args.m ∷ c.args.n ∷ [])) c.put_spaced-q.result (text_line [] (c.args.n ∷ [])) = let s = c in left-number s.args.m (s.args.n ∷ []) left-1 c.put_spaced-q.ensures in
    let left-3 : Left c.args.a.now c.put_spaced-r.new.a c.args.at (text_line [] (c.args.l ∷ c.args.m ∷ c.args.n ∷ [])) c.put_spaced-r.result (text_line [] []) = let s = c in left-number s.args.n [] left-2 c.put_spaced-r.ensures in
    feed-fits left-3 c.requires

pub overflow_add-result : goal.overflow_add-result
overflow_add-result c =
    let left-1 : Left c.args.a.now c.put_spaced-p.new.a c.args.at (text_line [] (c.args.l ∷ c.args.m ∷ c.args.n ∷ [])) c.put_spaced-p.result (text_line [] (c.args.m ∷ c.args.n ∷ [])) = let s = c in left-number s.args.l (s.args.m ∷ s.args.n ∷ []) (left-whole _ _ _) c.put_spaced-p.ensures in
    let left-2 : Left c.args.a.now c.put_spaced-q.new.a c.args.at (text_line [] (c.args.l ∷ c.args.m ∷ c.args.n ∷ [])) c.put_spaced-q.result (text_line [] (c.args.n ∷ [])) = let s = c in left-number s.args.m (s.args.n ∷ []) left-1 c.put_spaced-q.ensures in
    let left-3 : Left c.args.a.now c.put_spaced-r.new.a c.args.at (text_line [] (c.args.l ∷ c.args.m ∷ c.args.n ∷ [])) c.put_spaced-r.result (text_line [] []) = let s = c in left-number s.args.n [] left-2 c.put_spaced-r.ensures in
    omega (arith, feed-fits left-3 c.requires)

pub returns : goal.returns
returns c =
    let left-1 : Left c.args.a.now c.put_spaced-p.new.a c.args.at (text_line [] (c.args.l ∷ c.args.m ∷ c.args.n ∷ [])) c.put_spaced-p.result (text_line [] (c.args.m ∷ c.args.n ∷ [])) = let s = c in left-number s.args.l (s.args.m ∷ s.args.n ∷ []) (left-whole _ _ _) c.put_spaced-p.ensures in
    let left-2 : Left c.args.a.now c.put_spaced-q.new.a c.args.at (text_line [] (c.args.l ∷ c.args.m ∷ c.args.n ∷ [])) c.put_spaced-q.result (text_line [] (c.args.n ∷ [])) = let s = c in left-number s.args.m (s.args.n ∷ []) left-1 c.put_spaced-q.ensures in
    let left-3 : Left c.args.a.now c.put_spaced-r.new.a c.args.at (text_line [] (c.args.l ∷ c.args.m ∷ c.args.n ∷ [])) c.put_spaced-r.result (text_line [] []) = let s = c in left-number s.args.n [] left-2 c.put_spaced-r.ensures in
    left-feed left-3
