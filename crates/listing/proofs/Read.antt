-- The digits of a number say it.
use Rattle.std.proofs.Common.{◌≡◌, true, arith, rules}
use Rattle.std.specs.Str.{all_ascii_digits}
use Rattle.std.proofs.lemmas.Str.Parse.{IsNumeralModel, numerals_by_fold}
use Rattle.std.proofs.lemmas.Fmt.{decimal_nonempty, decimal_digit, digits_decimal, digits_value-decimal, first_decimal}
use Rattle.listing.specs.Theorems.{read_on, DecimalsRead}

own : IsNumeralModel (λ ds. all_ascii_digits ds ≡ true) (read_on 0)
own = numerals_by_fold _ (search rules) read_on (search rules)

pub decimals_read : DecimalsRead
decimals_read = record {
  some = decimal_nonempty;
  digits = digits_decimal own;
  number = digits_value-decimal own;
  first = first_decimal;
  zero = decimal_digit 0 (omega arith);
}
