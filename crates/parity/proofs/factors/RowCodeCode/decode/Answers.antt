use Rattle.std.proofs.Common.{◌≡◌, T, [], ◌∷◌, length, get_or, take, sym, ap, ◌∙◌, subst}
use Rattle.code.specs.Calls.{cut}
use Rattle.code.specs.Meaning.{Chosen}
use Rattle.field.specs.Matrix.{inverted, inverses}
use Rattle.parity.specs.Rows.{chosen_rows, listed, flat, combinations}
use Rattle.parity.specs.Lists.{flat_solved, take_four}
use Rattle.parity.specs.Lawfully.{factor_bytes, inverses_at, same_solution}
use Rattle.parity.proofs.factors.RowCodeCode.decode.Goals as goal

pub returns : goal.returns
returns g c h =
    let m = g.M.Factors.matrix in
    let is = take 4 c.args.numbers in
    let s = c.solution-solution.result in
    let test = g.met.M.Factors.solves in
    let front : get_or c.args.numbers 0 0 ∷ get_or c.args.numbers 1 0 ∷ get_or c.args.numbers 2 0 ∷ get_or c.args.numbers 3 0 ∷ [] ≡ is =
    sym (take_four c.args.numbers h.count) in
    let undo : T (inverses (chosen_rows m is) s) =
    subst (λ js. Chosen 4 (length m) js → T (inverses (chosen_rows m js) s)) front c.solution-solution.ensures h in
    c.flat.ensures
    ∙ ap flat (c.solved.ensures ∙ ap (λ rows. combinations s (listed rows)) c.of.ensures)
    ∙ flat_solved s c.args.parts
    ∙ same_solution m (length m) (factor_bytes m g.M.Factors.F test) is h s (inverted (chosen_rows m is)) undo
    (inverses_at m g.M.Factors.F test is h) (cut 4 6 c.args.parts)
