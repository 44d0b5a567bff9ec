-- `refusal_words` meets its contract. Assumes nothing.
use borrow.Author.Rules.{rules}
use Rattle.zenfrosta.proofs.boards.refusal_words.Goals as goal

pub returns-in-Cut : goal.returns-in-Cut
returns-in-Cut c = rw c.in-Cut.is c.placed.ensures

pub returns-in-UnknownTag : goal.returns-in-UnknownTag
returns-in-UnknownTag c = rw c.in-UnknownTag.is c.placed-in-UnknownTag.ensures

pub returns-in-WrongLength : goal.returns-in-WrongLength
returns-in-WrongLength c = rw c.in-WrongLength.is c.placed-in-WrongLength.ensures

pub returns-in-BoardShort : goal.returns-in-BoardShort
returns-in-BoardShort c = rw c.in-BoardShort.is c.placed-in-BoardShort.ensures

pub returns-in-NotABoard : goal.returns-in-NotABoard
returns-in-NotABoard c = rw c.in-NotABoard.is c.one.ensures

pub returns-in-KindUnknown : goal.returns-in-KindUnknown
returns-in-KindUnknown c = rw c.in-KindUnknown.is c.one-in-KindUnknown.ensures

pub returns-in-NoFreeLine : goal.returns-in-NoFreeLine
returns-in-NoFreeLine c = rw c.in-NoFreeLine.is c.one-in-NoFreeLine.ensures

pub returns-in-OutOfTurn : goal.returns-in-OutOfTurn
returns-in-OutOfTurn c = rw c.in-OutOfTurn.is c.one-in-OutOfTurn.ensures

pub returns-in-DoesNotFollow : goal.returns-in-DoesNotFollow
returns-in-DoesNotFollow c = rw c.in-DoesNotFollow.is c.one-in-DoesNotFollow.ensures

pub returns-in-NotCleared : goal.returns-in-NotCleared
returns-in-NotCleared c = rw c.in-NotCleared.is c.one-in-NotCleared.ensures
