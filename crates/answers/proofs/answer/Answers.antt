-- `answer` meets its contract: the call, its line, and the table as `Made` as before. Assumes nothing.
use mathlib.Core.Path.{refl}
use Rattle.requests.specs.Request.{call_is}
use Rattle.answers.proofs.Made.{reached-known, made-step}
use Rattle.answers.proofs.Shared.{line-told}
use Rattle.answers.proofs.Replies.{told}
use borrow.Author.Rules.{rules}
use Rattle.answers.proofs.answer.Goals as goal

pub call-x-requires : goal.call-x-requires
call-x-requires c = reached-known _ c.requires.0

pub tell-next-requires : goal.tell-next-requires
tell-next-requires c =
    let s = c in
    let k = c.call-x in
    let fine = told s.args.t.now (reached-known _ s.requires.0).sound k.new.t (call_is s.args.q) k.result k.ensures.encodes k.ensures.says in
    (k.ensures.encodes.room, fine.0, fine.1, s.requires.1)

pub returns : goal.returns
returns c =
    let s = c in
    let k = c.call-x in
    let m = made-step s.args.t.now k.new.t (call_is s.args.q) s.requires.0 k.ensures.encodes in
    record {
      made = m;
      state = k.ensures.encodes;
      rest = k.ensures.rest;
      line = line-told s.args.t.now k.new.t (call_is s.args.q) k.result k.ensures.encodes k.ensures.says c.tell-next.ensures;
      count = refl;
    }
