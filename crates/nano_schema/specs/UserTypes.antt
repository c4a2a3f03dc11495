-- What the file of a user-defined type needs of `nano_value`, passed on.
pub use Rattle.nano_meaning.proofs.AgreesLaws.{agreed, seen_agrees, pair_agrees, option_agrees}
pub use Rattle.nano_meaning.proofs.AgreesLaws.{list_agrees}
pub use Rattle.nano_value.specs.Meaning.{whole, number, truth, text}
pub use Rattle.nano_value.specs.Sums.{LegalVariant}
pub use Rattle.nano_schema.specs.ChoicesImpls.{last_agrees, next_agrees, choice_agrees}
pub use Rattle.nano_schema.specs.KeysImpls.{exact_by, exact_unsigned, exact_signed, exact_bool}
pub use Rattle.nano_schema.specs.KeysImpls.{exact_unit, exact_text, exact_pair, exact_triple}
pub use Rattle.nano_schema.specs.KeysImpls.{exact_quadruple, ordered_by, ordered_unsigned}
pub use Rattle.nano_schema.specs.KeysImpls.{ordered_signed, ordered_bool, ordered_unit, ordered_text}
pub use Rattle.nano_schema.specs.KeysImpls.{ordered_pair, ordered_triple, ordered_quadruple}
pub use Rattle.nano_schema.specs.KeysImpls.{variants, IsPlaced, placed, variants_tell}
pub use Rattle.nano_schema.specs.KeysImpls.{variants_follow}
