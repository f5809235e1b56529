use Rattle.std.proofs.Common.{◌≡◌, ℕ, List, [], ◌∷◌, ◌++◌, length, get_or, refl, ap₂, ◌∙◌, rules}
use Rattle.std.specs.List.{flat_map}
use Rattle.std.proofs.lemmas.List.FromFn.{fill_by_all}
use Rattle.parity.specs.Rows.{six, flat}
use Rattle.parity.proofs.rows.Rows.flat.Goals as goal

-- six bytes, each at its place
spelled : (row : List ℕ) → length row ≡ 6 → row ≡ six (λ b. get_or row b 0)
spelled row long = fill_by_all (λ b. get_or row b 0) row 6 0 long (λ k h. refl)

-- four rows of six, one after the other
placed : (a b c d : List ℕ) → length a ≡ 6 → length b ≡ 6 → length c ≡ 6 → length d ≡ 6
    → flat_map (λ row. row) (a ∷ b ∷ c ∷ d ∷ []) ≡ flat (a ∷ b ∷ c ∷ d ∷ [])
placed a b c d la lb lc ld =
    ap₂ (λ x y. x ++ (y ++ (c ++ (d ++ [])))) (spelled a la) (spelled b lb)
    ∙ ap₂ (λ x y. six (λ t. get_or a t 0) ++ (six (λ t. get_or b t 0) ++ (x ++ (y ++ [])))) (spelled c lc) (spelled d ld)

pub returns : goal.returns
returns c =
    let rows = c.args.self in
    c.joined.ensures ∙ placed rows.first.bytes rows.second.bytes rows.third.bytes rows.fourth.bytes (search rules) (search rules) (search rules) (search rules)
