use Rattle.std.proofs.Common.{◌≡◌, ◌-◌, ◌^◌, min, take, true}
use Rattle.std.specs.List.{list_all}
use Rattle.std.specs.Char.{is_ascii_digit}
use Rattle.std.specs.Str.Parse.{digits_value_after}
use Rattle.tre_decimal.proofs.read.read_behind.Given as goal

-- the bytes so far are digits, and the number is that of them
abbrev pub invariant-loop-byte : goal.invariant-loop-byte
invariant-loop-byte l = record {
  digits : list_all is_ascii_digit (take l.byte-index l.digits) ≡ true;
  value : l.longer
      ≡ min (digits_value_after 10 l.fn.number (take l.byte-index l.digits)) (2 ^ 64 - 1);
}
