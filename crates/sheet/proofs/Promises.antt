-- What specs/Promises.antt promises. Assumes nothing.
use mathlib.Core.Path.{refl}
use Rattle.sheet.specs.Promises.{SheetFormReadsBack, SheetFormWritesBack, LineByLine, SheetRefusesInside, FirstWrong, CutShort, FormIsRead}
use Rattle.sheet.proofs.Back.{accepted-sheet}
use Rattle.sheet.proofs.Faults.{fault}
use Rattle.sheet.proofs.Forth.{written_read}
use Rattle.sheet.proofs.Numbers.{line_walk}
use Rattle.sheet.proofs.Formed.{never-formed}
use Rattle.sheet.proofs.Prefix.{wrong_byte, cut_short}

pub reads-back : SheetFormReadsBack
unfolding SheetFormReadsBack
reads-back gs s none un = written_read gs s none un

pub writes-back : SheetFormWritesBack
unfolding SheetFormWritesBack
writes-back s v gs n p h = accepted-sheet s v gs n p h

pub line-by-line : LineByLine
unfolding LineByLine
line-by-line a b c at seen gs bs ha hb hc = line_walk a b c at seen gs bs ha hb hc

pub refuses-inside : SheetRefusesInside
unfolding SheetRefusesInside
refuses-inside s n q h = fault n q s h

pub first-wrong : FirstWrong
unfolding FirstWrong
first-wrong s p h = wrong_byte s p h

pub is-cut-short : CutShort
unfolding CutShort
is-cut-short s p h = cut_short s p h

pub form-is-read : FormIsRead
unfolding FormIsRead
form-is-read s q f = (λ h. never-formed 80 q refl s f h, λ h. never-formed 81 q refl s f h)
