-- `put` meets its contract. Assumes nothing.
use mathlib.Core.Path.{◌≡◌}
use Rattle.std.specs.Prelude.{Err}
use Rattle.rules.specs.State.{Rec}
use Rattle.rules.specs.Calls.{put}
use Rattle.table.specs.Means.{meant}
use Rattle.engine.proofs.Replies.{put-allowed, back-allowed, put_refused, put-does, refusal-does}
use borrow.Author.Rules.{rules}
use Rattle.engine.proofs.put.Goals as goal

pub put_record-requires : goal.put_record-requires
put_record-requires c =
    let b = c.take_back in
    let e : Rec = record { train = c.args.train; mark = c.args.mark; len = c.args.length.0 } in
    let ok = put-allowed (meant c.args.t.now) c.args.lane e c.in_ok-held.ensures.0 in
    (b.ensures.known, back-allowed c.args.t.now _ c.args.lane e b.ensures ok)

pub returns-in_err-held : goal.returns-in_err-held
returns-in_err-held c =
    let v = c.in_err-held.ensures in
    let is : c.from_residual.result ≡ Err c.in_err-held.field-0.0 = search rules in
    rw is (refusal-does (put _ _ _ _) c.args.t.now _ c.requires v.1 (put_refused (meant c.args.t.now) c.args.lane c.args.train c.args.mark c.args.length.0 _ v.0))

pub returns : goal.returns
returns c =
    let v = c.in_ok-held.ensures in
    put-does c.args.t.now _ _ c.args.lane c.args.train c.args.mark c.args.length.0 _ c.requires v.0 c.take_back.ensures c.put_record.ensures v.2
