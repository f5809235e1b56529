-- The worked calls, run by the definitions.
use Rattle.std.proofs.Common.{◌≡◌, ℕ, zero, suc, ◌<◌, Bool, true, ◌&&◌, ltb, List, [], ◌∷◌, get_or, refl, arith}
use Rattle.std.proofs.lemmas.Bool.{and_parts, ltb-true}
use Rattle.code.specs.Alike.{lawful}
use Rattle.record.specs.Layout.{is_record}
use Rattle.register.specs.Tables.{tally}
use Rattle.register.specs.Stamps.{below, same_stamp}
use Rattle.register.specs.Nodes.{cleared, cut, raise, replace, put, store}
use Rattle.register.specs.Reading.{shelf_piece, spare_piece, spare_record, node_piece, pieces, whole, shelf_stamps, spare_stamps, node_stamps, stamps, top_floor, list_count, top_count, record_under, highest, rebuild}
use Rattle.register.specs.Machine.{laid_out, on_turn, off_turn, write_turn, read_turn, served, visit, fetch_turn, step}
use Rattle.register.specs.Promises.{ARecord}
use Rattle.register.specs.Example.{first, second, Worked}

-- a list of small numbers has small ones at each place
all_small : List ℕ → Bool
all_small [] = true
all_small (x ∷ xs) = ltb x 256 && all_small xs

small : (xs : List ℕ) → all_small xs ≡ true → (j : ℕ) → get_or xs j 0 < 256
unfolding all_small
small [] h j = omega arith
small (x ∷ xs) h zero = ltb-true x 256 (and_parts (ltb x 256) (all_small xs) h).0
small (x ∷ xs) h (suc j) = small xs (and_parts (ltb x 256) (all_small xs) h).1 j

first_lies : is_record first.bytes ≡ true
unfolding is_record
first_lies = refl

second_lies : is_record second.bytes ≡ true
unfolding is_record
second_lies = refl

first_good : ARecord first.bytes
unfolding all_small
first_good = record { sized = record { long = refl; small = small first.bytes refl }; lies = first_lies }

second_good : ARecord second.bytes
unfolding all_small
second_good = record { sized = record { long = refl; small = small second.bytes refl }; lies = second_lies }

pub worked : Worked
unfolding below same_stamp cleared cut raise replace put store tally shelf_piece spare_piece spare_record node_piece pieces whole shelf_stamps spare_stamps node_stamps stamps top_floor list_count top_count record_under highest rebuild laid_out on_turn off_turn write_turn read_turn served visit fetch_turn step is_record
worked = record {
  lawful = lawful 1 (omega arith) (omega arith);
  accepted = refl;
  given = first_good;
  proper = (second_good, tt);
  told = refl;
  read = refl;
  written = refl;
  both_held = refl;
  one_held = refl;
  none_held = refl;
}
