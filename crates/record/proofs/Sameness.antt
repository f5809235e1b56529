-- Sameness is an equivalence: it compares parameter, unit and ten-thousandths. Assumes nothing.
use Rattle.std.proofs.Common.{◌≡◌, true, eqb, sym, refl, ◌∙◌}
use Rattle.std.proofs.lemmas.Bool.{and_parts, and_from, eqb-true, eq-eqb}
use Rattle.record.specs.declared.fields.Record.{Record}
use Rattle.record.specs.Units.{code_of}
use Rattle.record.specs.Values.{Equivalence, same}
use Rattle.record.specs.Tens.{ten_thousandths}
use Rattle.record.proofs.Scaling.{tens_tell, eqℤ_true, eq_eqℤ}

record Agree (r s : Record) : Type 0 where
  parameter : r.parameter ≡ s.parameter
  unit : code_of r.unit ≡ code_of s.unit
  tens : ten_thousandths r.number.value r.exponent.value ≡ ten_thousandths s.number.value s.exponent.value

agree : (r s : Record) → same r s ≡ true → Agree r s
agree r s e =
    let p = and_parts (eqb r.parameter s.parameter) _ e in
    let q = and_parts (eqb (code_of r.unit) (code_of s.unit)) _ p.1 in
    record {
      parameter = eqb-true _ _ p.0;
      unit = eqb-true _ _ q.0;
      tens = eqℤ_true _ _ (tens_tell _ _ _ _ r.exponent.low s.exponent.low ∙ q.1);
    }

together : (r s : Record) → Agree r s → same r s ≡ true
together r s a =
    and_from _ _ (eq-eqb _ _ a.parameter)
    (and_from _ _ (eq-eqb _ _ a.unit) (sym (tens_tell _ _ _ _ r.exponent.low s.exponent.low) ∙ eq_eqℤ _ _ a.tens))

pub same_equivalence : Equivalence same
same_equivalence = record {
  itself = λ r. together r r (record { parameter = refl; unit = refl; tens = refl });
  turned = λ r s e. let a = agree r s e in together s r (record { parameter = sym a.parameter; unit = sym a.unit; tens = sym a.tens });
  chained = λ r s t e f.
      let a = agree r s e in
      let b = agree s t f in
      together r t (record { parameter = a.parameter ∙ b.parameter; unit = a.unit ∙ b.unit; tens = a.tens ∙ b.tens });
}
