use Rattle.std.proofs.Common.{◌≡◌, ℕ, ◌+◌, ◌-◌, ◌*◌, ◌<◌, ◌≤◌, true, eqb, List, [], length, get_or, sym, ap, ◌∙◌, subst, arith, below_more}
use lib.ListN.{length-map}
use Rattle.std.specs.List.{range_with_len}
use Rattle.std.proofs.lemmas.List.{get_or-map}
use Rattle.std.proofs.lemmas.Bool.{eqb-true}
use Rattle.code.specs.declared.calls.Piece.{Piece}
use Rattle.code.specs.Meaning.{AllBytes}
use Rattle.code.specs.Calls.{bytes_of, contents_of, all_long, cut}
use Rattle.code.proofs.Default.{none}
use Rattle.code.proofs.Scan.{every_one}
use Rattle.code.proofs.Cuts.{cut_by, part_ends, part_room, part_before, part_here, parts_bytes}
use Rattle.code.proofs.calls.gather_bytes.Goals as goal

long_at : (w : ℕ) (ps : List Piece) (i : ℕ) → i < length ps → all_long w (contents_of ps) ≡ true → length (bytes_of (get_or ps i none)) ≡ w
long_at w ps i h t = eqb-true (length (bytes_of (get_or ps i none))) w (every_one (λ p. eqb (length p) w) bytes_of ps i none h t)

pub copy_from_slice-requires : goal.copy_from_slice-requires
copy_from_slice-requires c =
    let ends = part_ends c.args.w c.loop-i.i (length c.args.pieces.now) c.loop-i-test.true in
    part_room c.args.w c.loop-i.all c.loop-i.i (omega (arith, c.requires.count))
    ∙ sym (long_at c.args.w c.args.pieces.now c.loop-i.i c.loop-i-test.true c.requires.sizes)

pub loop-i-preserved : goal.loop-i-preserved
loop-i-preserved c =
    let w = c.args.w in
    let i = c.loop-i.i in
    let x = c.loop-i.all in
    let p = c.copy_from_slice.new.self in
    let ps = c.args.pieces.now in
    let ends = part_ends w i (length ps) c.loop-i-test.true in
    let inside : i * w ≤ length x = omega (arith, c.requires.count) in
    let same : p ≡ bytes_of (get_or ps i none) = c.copy_from_slice.ensures.after in
    let size : length p ≡ w = ap length same ∙ long_at w ps i c.loop-i-test.true c.requires.sizes in (
      below_more _ _
          (λ m h. part_before w x p (i * w + w - i * w) m i h inside ∙ c.loop-i.invariant.0 m h)
          (part_here w x p (i * w + w - i * w) i size inside ∙ same),
      λ j. (c.type_inv.all j).fits,
    )

pub returns : goal.returns
returns c =
    let ps = c.args.pieces.now in
    let w = c.args.w in
    let same : cut (length ps) w c.loop-i.all ≡ contents_of ps =
    cut_by (length ps) w c.loop-i.all (contents_of ps) (length-map ps bytes_of)
    (λ m h. c.loop-i.invariant.0 m (omega arith) ∙ sym (get_or-map bytes_of ps m none [] h)) in
    record {
      parts = same;
      bytes = subst (AllBytes w) same
          (parts_bytes w c.loop-i.all c.loop-i.invariant.1 (range_with_len 0 (length ps)) (ap (all_long w) same ∙ c.requires.sizes));
    }
