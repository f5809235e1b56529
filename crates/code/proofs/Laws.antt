-- What follows from a code's laws.
use Rattle.std.proofs.Common.{◌≡◌, ℕ, ◌≤◌, Bool, true, false, T, ltb, List, [], ◌∷◌, map, sym, refl, ◌∙◌, mul-le-mul_right, arith}
use lib.ListN.{length-map}
use Rattle.std.proofs.lemmas.Bool.{and_parts, ltb-true}
use Rattle.code.specs.Bytes.{Bytes}
use Rattle.code.specs.Meaning.{Meaning, Lawful, Chosen, Enough, Only, AllBytes, OneAndOnly, Rebuilds, all_below}

true_of : (b : Bool) → T b → b ≡ true
true_of true t = refl
true_of false t = absurd t

module _ (m : Meaning) (law : Lawful m) where
  -- a piece is no longer than a record
  pub width_fits : m.w ≤ 24
  width_fits = let l = mul-le-mul_right m.w law.needed in let e = law.sizes in omega arith

  -- the pieces that 24 bytes have at rising numbers are enough
  own_bytes : (x : List ℕ) (is : List ℕ) → Bytes 24 x → all_below m.n is ≡ true → AllBytes m.w (map (m.piece x) is)
  own_bytes x [] b t = tt
  own_bytes x (i ∷ is) b t =
      let both = and_parts (ltb i m.n) (all_below m.n is) t in
      (law.piece_bytes x i b (ltb-true i m.n both.0), own_bytes x is b both.1)

  own_enough : (x : List ℕ) (is : List ℕ) → Bytes 24 x → Chosen m.k m.n is → Enough m is (map (m.piece x) is)
  own_enough x is b c =
      record { chosen = c; count = length-map is (m.piece x) ∙ c.count; bytes = own_bytes x is b (true_of (all_below m.n is) c.below) }

  pub rebuilds : Rebuilds m
  rebuilds x is b c =
      sym (law.only is (map (m.piece x) is) x (own_enough x is b c) (record { bytes = b; pieces = refl }))

  pub joined_only : (is : List ℕ) (ps : List (List ℕ)) → Enough m is ps → Only m is ps (m.join is ps)
  joined_only is ps e = record { has = law.exist is ps e; alone = λ y h. law.only is ps y e h }

  pub one_and_only : OneAndOnly m
  one_and_only is ps e = (m.join is ps, joined_only is ps e)
