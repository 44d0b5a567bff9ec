-- `seek` meets its contract. Assumes nothing.
use Prim.Native.Nat.{◌<◌}
use native.Mathlib.Omega.{arith}
use mathlib.Core.Path.{◌≡◌}
use mathlib.Core.Bool.{true, false}
use borrow.Author.Rules.{rules}
use Rattle.show.proofs.Spots.{few, spot-no-train, spot-idle, spot_past, spot-train, spot-other, spot-none, spot-plain}
use Rattle.show.proofs.seek.Goals as goal

pub returns-then-train-ge8 : goal.returns-then-train-ge8
returns-then-train-ge8 c =
    let s = c in
    let kind : s.args.l.shared ≡ true = search rules in
    spot-no-train s.args.t.now s.args.k s.args.l s.requires kind s.args.train s.args.i c.if-train-ge8.true

pub returns-then-l-eq0 : goal.returns-then-l-eq0
returns-then-l-eq0 c =
    let s = c in
    let kind : s.args.l.shared ≡ true = search rules in
    spot-idle s.args.t.now s.args.k s.args.l s.requires kind s.args.train s.args.i c.if-train-ge8.false c.if-l-eq0.true

pub returns-then-number-i : goal.returns-then-number-i
returns-then-number-i c =
    let s = c in
    let kind : s.args.l.shared ≡ true = search rules in
    let low : s.args.train < 8 = omega arith in
    let some-held : 0 < s.args.l.count = omega arith in
    spot_past s.args.t.now s.args.k s.args.l s.requires kind s.args.train s.args.i low some-held _
    c.train-number.ensures.0 c.if-number-i.true

pub returns-then-l : goal.returns-then-l
returns-then-l c =
    let s = c in
    let kind : s.args.l.shared ≡ true = search rules in
    let low : s.args.train < 8 = omega arith in
    let some-held : 0 < s.args.l.count = omega arith in
    spot-train s.args.t.now s.args.k s.args.l s.requires kind s.args.train s.args.i low some-held _
    c.train-number.ensures.0 c.if-number-i.false

pub returns-then-train-ne0 : goal.returns-then-train-ne0
returns-then-train-ne0 c =
    let s = c in
    let kind : s.args.l.shared ≡ false = search rules in
    spot-other s.args.t.now s.args.k s.args.l s.requires kind s.args.i s.args.train c.if-train-ne0.true

pub returns-then-l-i : goal.returns-then-l-i
returns-then-l-i c =
    let s = c in
    let kind : s.args.l.shared ≡ false = search rules in
    let first : s.args.train ≡ 0 = omega arith in
    spot-none s.args.t.now s.args.k s.args.l s.requires kind s.args.i s.args.train first c.if-l-i.true

pub overflow_add-result-2 : goal.overflow_add-result-2
overflow_add-result-2 c =
    let s = c in
    let n = few s.args.t.now s.args.k s.args.l s.requires in
    omega (arith, n, s.requires.4)

pub returns : goal.returns
returns c =
    let s = c in
    let kind : s.args.l.shared ≡ false = search rules in
    let first : s.args.train ≡ 0 = omega arith in
    spot-plain s.args.t.now s.args.k s.args.l s.requires kind s.args.i s.args.train first c.if-l-i.false
