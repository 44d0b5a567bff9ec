-- `put_verdict` meets its contract. Assumes nothing.
use Prim.Native.Nat.{◌≤◌, ◌<◌}
use mathlib.Core.Path.{◌≡◌, refl, sym, ap, ◌∙◌}
use mathlib.Core.Bool.{Bool, true, false}
use mathlib.Core.Option.{some}
use lib.Dec.{leb}
use lib.ListN.{length}
use native.Mathlib.Nat.{pos_of_ne-zero}
use native.Mathlib.Omega.{arith}
use borrow.Author.Tests.{not-true, lt-ltb, le-ltb, le-leb, lt-leb}
use Rattle.waiting.specs.Waiting.{queue_of, full, known}
use Rattle.std.specs.Prelude.{if◌then◌else◌}
use Rattle.rules.specs.State.{Setting, Lane, lane_at}
use Rattle.rules.specs.Calls.{put_refusal}
use Rattle.table.specs.Means.{meant}
use Rattle.queue.specs.Queue.{waiting}
use Rattle.engine.specs.Does.{lane_trains, queue_depth}
use Rattle.engine.proofs.RowIs.{RowIs, row-weighs, row_knows, row-full, read-row, read_held, absent-lane, far-lane}
use Rattle.engine.proofs.Verdicts.{no-lane, no-train, empty-record, too_long, no_room_lem, allowed}
use borrow.Author.Rules.{rules}
use mathlib.Core.Bool.{not}
use Rattle.engine.proofs.put_verdict.Goals as goal

pub returns-then-k-ge64 : goal.returns-then-k-ge64
returns-then-k-ge64 c =
    let s = c in
    (no-lane (meant s.args.t.now) s.args.lane (waiting s.args.e) (ap (λ (l : Lane). l.given.weight) (far-lane s.args.t.now s.args.lane c.if-k-ge64.true)), refl, tt)

pub returns-then-not-present : goal.returns-then-not-present
returns-then-not-present c =
    let s = c in (
      no-lane (meant s.args.t.now) s.args.lane (waiting s.args.e)
          (ap (λ (l : Lane). l.given.weight) (absent-lane s.args.t.now s.args.lane c.if-k-ge64.false (sym c.present.ensures ∙ not-true c.present.result (ap not c.if-not-present.true)))),
      refl,
      tt,
    )

pub returns-then-trains-j : goal.returns-then-trains-j
returns-then-trains-j c =
    let row-known : RowIs (lane_at (meant c.args.t.now) c.args.lane) c.row-l.result = let s = c in
    read-row s.args.t.now s.requires.sound s.args.lane c.if-k-ge64.false c.present.ensures (ap not c.if-not-present.false) _ c.row-l.ensures.0 in
    let s = c in
    let l = c.row-l.result in
    let known = row_knows (lane_at (meant s.args.t.now) s.args.lane) l row-known s.args.e.train in
    (no-train _ _ (waiting s.args.e) (row-weighs _ _ row-known) (known ∙ le-ltb s.args.e.train (lane_trains l.shared) (omega (arith, c.trains.ensures, c.if-trains-j.true))), refl, tt)

pub returns-then-length-eq0 : goal.returns-then-length-eq0
returns-then-length-eq0 c =
    let row-known : RowIs (lane_at (meant c.args.t.now) c.args.lane) c.row-l.result = let s = c in
    read-row s.args.t.now s.requires.sound s.args.lane c.if-k-ge64.false c.present.ensures (ap not c.if-not-present.false) _ c.row-l.ensures.0 in
    let train-known : known (lane_at (meant c.args.t.now) c.args.lane).waiting c.args.e.train ≡ true = let s = c in
    let l = c.row-l.result in
    row_knows (lane_at (meant s.args.t.now) s.args.lane) l row-known s.args.e.train ∙ lt-ltb s.args.e.train (lane_trains l.shared) (omega (arith, c.trains.ensures, c.if-trains-j.false)) in
    (empty-record _ _ (waiting c.args.e) (row-weighs _ _ row-known) train-known c.if-length-eq0.true, refl, tt)

pub returns-then-l-length : goal.returns-then-l-length
returns-then-l-length c =
    let row-known : RowIs (lane_at (meant c.args.t.now) c.args.lane) c.row-l.result = let s = c in
    read-row s.args.t.now s.requires.sound s.args.lane c.if-k-ge64.false c.present.ensures (ap not c.if-not-present.false) _ c.row-l.ensures.0 in
    let train-known : known (lane_at (meant c.args.t.now) c.args.lane).waiting c.args.e.train ≡ true = let s = c in
    let l = c.row-l.result in
    row_knows (lane_at (meant s.args.t.now) s.args.lane) l row-known s.args.e.train ∙ lt-ltb s.args.e.train (lane_trains l.shared) (omega (arith, c.trains.ensures, c.if-trains-j.false)) in
    let a = c in
    (too_long _ _ (waiting c.args.e) (row-weighs _ _ row-known) train-known (rw row-known.given c.if-l-length.true), refl, tt)

pub train_held-held-requires : goal.train_held-held-requires
train_held-held-requires c =
    let s = c in
    (omega (arith, s.requires.sound.room), c.if-k-ge64.false, omega (arith, c.trains.ensures, c.if-trains-j.false))

pub returns-then-l : goal.returns-then-l
returns-then-l c =
    let row-known : RowIs (lane_at (meant c.args.t.now) c.args.lane) c.row-l.result = let s = c in
    read-row s.args.t.now s.requires.sound s.args.lane c.if-k-ge64.false c.present.ensures (ap not c.if-not-present.false) _ c.row-l.ensures.0 in
    let train-known : known (lane_at (meant c.args.t.now) c.args.lane).waiting c.args.e.train ≡ true = let s = c in
    let l = c.row-l.result in
    row_knows (lane_at (meant s.args.t.now) s.args.lane) l row-known s.args.e.train ∙ lt-ltb s.args.e.train (lane_trains l.shared) (omega (arith, c.trains.ensures, c.if-trains-j.false)) in
    let has-bytes : 0 < c.args.e.length.0 = pos_of_ne-zero c.if-length-eq0.false in
    let fits : c.args.e.length.0 ≤ (lane_at (meant c.args.t.now) c.args.lane).given.longest = rw row-known.given c.if-l-length.false in
    let found : c.train_held-held.result ≡ length (queue_of (lane_at (meant c.args.t.now) c.args.lane).waiting c.args.e.train) = let s = c in
    let a = c in
    c.train_held-held.ensures ∙ read_held s.args.t.now s.requires.sound s.args.lane a.if-k-ge64.false a.present.ensures (ap not a.if-not-present.false) a.row-l.result a.row-l.ensures.0 s.args.e.train (omega (arith, c.trains.ensures, c.if-trains-j.false)) in
    let room-is : full (lane_at (meant c.args.t.now) c.args.lane).waiting c.args.e.train ≡ leb (queue_depth c.row-l.result.shared) c.train_held-held.result = let s = c in
    let l = c.row-l.result in
    row-full (lane_at (meant s.args.t.now) s.args.lane) l row-known s.args.e.train train-known ∙ ap (leb (queue_depth l.shared)) (sym found) in
    let no-room-is : (b : Bool) → c.row-l.result.shared ≡ b → some (if b then 71 else 13) ≡ put_refusal (meant c.args.t.now) c.args.lane (waiting c.args.e) = λ b e. let a = c in
    let full-now = room-is ∙ le-leb (queue_depth a.row-l.result.shared) c.train_held-held.result (omega (arith, c.depth.ensures, c.if-depth-held.true)) in
    no_room_lem _ _ (waiting c.args.e) (row-weighs _ _ row-known) train-known has-bytes fits b (ap (λ (g : Setting). g.shared) row-known.given ∙ e) full-now in
    (no-room-is true c.if-l.true, refl, tt)

pub returns-then-depth-held : goal.returns-then-depth-held
returns-then-depth-held c =
    let row-known : RowIs (lane_at (meant c.args.t.now) c.args.lane) c.row-l.result = let s = c in
    read-row s.args.t.now s.requires.sound s.args.lane c.if-k-ge64.false c.present.ensures (ap not c.if-not-present.false) _ c.row-l.ensures.0 in
    let train-known : known (lane_at (meant c.args.t.now) c.args.lane).waiting c.args.e.train ≡ true = let s = c in
    let l = c.row-l.result in
    row_knows (lane_at (meant s.args.t.now) s.args.lane) l row-known s.args.e.train ∙ lt-ltb s.args.e.train (lane_trains l.shared) (omega (arith, c.trains.ensures, c.if-trains-j.false)) in
    let has-bytes : 0 < c.args.e.length.0 = pos_of_ne-zero c.if-length-eq0.false in
    let fits : c.args.e.length.0 ≤ (lane_at (meant c.args.t.now) c.args.lane).given.longest = rw row-known.given c.if-l-length.false in
    let found : c.train_held-held.result ≡ length (queue_of (lane_at (meant c.args.t.now) c.args.lane).waiting c.args.e.train) = let s = c in
    let a = c in
    c.train_held-held.ensures ∙ read_held s.args.t.now s.requires.sound s.args.lane a.if-k-ge64.false a.present.ensures (ap not a.if-not-present.false) a.row-l.result a.row-l.ensures.0 s.args.e.train (omega (arith, c.trains.ensures, c.if-trains-j.false)) in
    let room-is : full (lane_at (meant c.args.t.now) c.args.lane).waiting c.args.e.train ≡ leb (queue_depth c.row-l.result.shared) c.train_held-held.result = let s = c in
    let l = c.row-l.result in
    row-full (lane_at (meant s.args.t.now) s.args.lane) l row-known s.args.e.train train-known ∙ ap (leb (queue_depth l.shared)) (sym found) in
    let no-room-is : (b : Bool) → c.row-l.result.shared ≡ b → some (if b then 71 else 13) ≡ put_refusal (meant c.args.t.now) c.args.lane (waiting c.args.e) = λ b e. let a = c in
    let full-now = room-is ∙ le-leb (queue_depth a.row-l.result.shared) c.train_held-held.result (omega (arith, c.depth.ensures, c.if-depth-held.true)) in
    no_room_lem _ _ (waiting c.args.e) (row-weighs _ _ row-known) train-known has-bytes fits b (ap (λ (g : Setting). g.shared) row-known.given ∙ e) full-now in
    (no-room-is false c.if-l.false, refl, tt)

pub returns : goal.returns
returns c =
    let row-known : RowIs (lane_at (meant c.args.t.now) c.args.lane) c.row-l.result = let s = c in
    read-row s.args.t.now s.requires.sound s.args.lane c.if-k-ge64.false c.present.ensures (ap not c.if-not-present.false) _ c.row-l.ensures.0 in
    let train-known : known (lane_at (meant c.args.t.now) c.args.lane).waiting c.args.e.train ≡ true = let s = c in
    let l = c.row-l.result in
    row_knows (lane_at (meant s.args.t.now) s.args.lane) l row-known s.args.e.train ∙ lt-ltb s.args.e.train (lane_trains l.shared) (omega (arith, c.trains.ensures, c.if-trains-j.false)) in
    let has-bytes : 0 < c.args.e.length.0 = pos_of_ne-zero c.if-length-eq0.false in
    let fits : c.args.e.length.0 ≤ (lane_at (meant c.args.t.now) c.args.lane).given.longest = rw row-known.given c.if-l-length.false in
    let found : c.train_held-held.result ≡ length (queue_of (lane_at (meant c.args.t.now) c.args.lane).waiting c.args.e.train) = let s = c in
    let a = c in
    c.train_held-held.ensures ∙ read_held s.args.t.now s.requires.sound s.args.lane a.if-k-ge64.false a.present.ensures (ap not a.if-not-present.false) a.row-l.result a.row-l.ensures.0 s.args.e.train (omega (arith, c.trains.ensures, c.if-trains-j.false)) in
    let room-is : full (lane_at (meant c.args.t.now) c.args.lane).waiting c.args.e.train ≡ leb (queue_depth c.row-l.result.shared) c.train_held-held.result = let s = c in
    let l = c.row-l.result in
    row-full (lane_at (meant s.args.t.now) s.args.lane) l row-known s.args.e.train train-known ∙ ap (leb (queue_depth l.shared)) (sym found) in
    let a = c in
    let room = room-is ∙ lt-leb (queue_depth a.row-l.result.shared) c.train_held-held.result (omega (arith, c.depth.ensures, c.if-depth-held.false)) in
    (allowed _ _ (waiting c.args.e) (row-weighs _ _ row-known) train-known has-bytes fits room, tt, found)
