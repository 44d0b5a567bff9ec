use Rattle.fresh.proofs.Packed.{packed_shared, packed-alone}
use borrow.Author.Rules.{rules}
use Rattle.fresh.proofs.setting_word.Goals as goal

pub returns-then-shared : goal.returns-then-shared
returns-then-shared c =
    let s = c in λ h n framed. packed_shared s.args.weight s.args.longest.0 h s.args.shared n framed c.if-shared.true

pub returns : goal.returns
returns c =
    let s = c in λ h n framed. packed-alone s.args.weight s.args.longest.0 h s.args.shared n framed c.if-shared.false
