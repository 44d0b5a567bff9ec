-- `words_of` meets its contract. Assumes nothing.
use mathlib.Core.Path.{◌∙◌}
use mir.Syntax.{w64}
use mir.Val.{SFits}
use mir.ValLaws.{to_z-of_z}
use borrow.Author.Rules.{rules}
use Rattle.zenfrosta.proofs.words_of.Goals as goal

pub returns-in-Accepted : goal.returns-in-Accepted
returns-in-Accepted c = c.one.ensures ∙ rw c.in-Accepted.is

pub returns-in-Taken : goal.returns-in-Taken
returns-in-Taken c = c.record_words.ensures ∙ rw c.in-Taken.is

pub returns-in-Seen : goal.returns-in-Seen
returns-in-Seen c = c.record_words-in-Seen.ensures ∙ rw c.in-Seen.is

pub returns-in-Sets : goal.returns-in-Sets
returns-in-Sets c = rw c.in-Sets.is

pub returns-in-Lag : goal.returns-in-Lag
returns-in-Lag c =
    let fits : SFits w64 c.in-Lag.z = record { sfits = c.in-Lag.known_told-in-Lag-1-own.given.0.1 } in
    c.one-in-Lag.ensures ∙ rw (c.complement.ensures, c.in-Lag.is, to_z-of_z w64 c.in-Lag.z fits)

pub returns-in-Restarted : goal.returns-in-Restarted
returns-in-Restarted c = c.one-in-Restarted.ensures ∙ rw c.in-Restarted.is
