use Rattle.std.proofs.Common.{◌≡◌, ◌^◌, ◌<◌, true, take}
use Rattle.std.specs.Char.{is_digit}
use Rattle.std.specs.List.{list_all}
use Rattle.std.specs.Str.Parse.{digits_value}
use Rattle.tre_define.proofs.number.read_based.Given as goal

-- the bytes so far are digits, and the number is theirs
abbrev pub invariant-loop-byte : goal.invariant-loop-byte
invariant-loop-byte l = record {
  digits : list_all (λ byte. is_digit byte l.base) (take l.byte-index l.digits) ≡ true;
  value : l.number ≡ digits_value l.base (take l.byte-index l.digits);
  small : l.number < 2 ^ 64;
}
