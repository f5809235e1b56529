use Rattle.std.proofs.Common.{◌≡◌, ℕ, Bool, true, false, cond, T, List, [], Option, Some, None, get_or, sym, ap, ◌∙◌, subst, rules}
use Rattle.std.specs.Option.{option_map, MatchOption}
use Rattle.code.specs.Meaning.{Chosen}
use Rattle.parity.specs.declared.double_parity.Choice.{Choice}
use Rattle.field.specs.Polynomials.{twice, times}
use Rattle.field.specs.Matrix.{inverses}
use Rattle.parity.specs.Rows.{chosen_rows}
use Rattle.parity.specs.DoubleParity.{double_parity, rising, rank_of, solutions}
use Rattle.parity.specs.Choices.{chosen_passes}
use Rattle.parity.proofs.double_parity.DoubleParityFactors.solution.Goals as goal

-- the rule of the table, computed at each choice
table : (is : List ℕ) → Chosen 4 6 is → T (inverses (chosen_rows double_parity is) (get_or solutions (rank_of is) []))
unfolding twice times
table is h = chosen_passes 6 (λ js. inverses (chosen_rows double_parity js) (get_or solutions (rank_of js) [])) tt is h

-- chosen numbers pass the test that the code makes
chosen_rise : (is : List ℕ) → Chosen 4 6 is → T (rising is)
chosen_rise is h = chosen_passes 6 rising tt is h

passed : (b : Bool) (is : List ℕ) (o : Option (List ℕ)) → T b → o ≡ cond b (Some is) None → o ≡ Some is
passed true is o t e = e
passed false is o t e = absurd t

-- so the choice is there, and holds them
picked : (o : Option Choice) (is : List ℕ) (P : Type 0) (Q : Choice → Type 0) (R : Type 0) → option_map (λ (c : Choice). c.numbers) o ≡ Some is → MatchOption o P Q → ((c : Choice) → c.numbers ≡ is → Q c → R) → R
picked None is P Q R e m f = absurd cc
picked (Some c) is P Q R e m f = f c (cc) m

pub returns : goal.returns
returns c h =
    let is = c.args.numbers in
    picked c.of.result is _ _ _ (passed (rising is) is _ (chosen_rise is h) c.of.ensures) c.map_or.ensures
    (λ choice same call.
    let found : c.map_or.result ≡ get_or solutions (rank_of choice.numbers) [] = search rules in
    subst (λ s. T (inverses (chosen_rows double_parity is) s)) (sym (found ∙ ap (λ js. get_or solutions (rank_of js) []) same)) (table is h))
