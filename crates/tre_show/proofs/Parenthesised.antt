-- What pieces of text come to, one behind another.
use Rattle.std.proofs.Common.{◌≡◌, Bool, true, false, List, ℕ, [], ◌++◌, if◌then◌else◌, append_assoc, rules}
use Rattle.std.specs.Prelude.{codes}
use Rattle.tre_show.specs.StateText.{in_parens}

-- two pieces
pub put_two : (old first all one two : List ℕ) → first ≡ old ++ one → all ≡ first ++ two
    → all ≡ old ++ (one ++ two)
put_two old first all one two is_first is_all =
    rw (is_all, is_first) (append_assoc old one two)

-- one piece, and then two
pub put_three : (old first all one two three : List ℕ) → first ≡ old ++ one
    → all ≡ first ++ (two ++ three) → all ≡ old ++ (one ++ two ++ three)
put_three old first all one two three is_first is_all =
    rw (is_all, is_first) (search (rules, append_assoc))

put_plain : (old opened left signed right closed one sign two : List ℕ) → opened ≡ old ++ []
    → left ≡ opened ++ one → signed ≡ left ++ sign → right ≡ signed ++ two → closed ≡ right ++ []
    → closed ≡ old ++ (one ++ sign ++ two)
put_plain old opened left signed right closed one sign two a b c d e =
    rw (e, d, c, b, a) (search (rules, append_assoc))

-- two operands with a sign between them, in parentheses where these are asked for
pub put_joined : (asked : Bool) (old opened left signed right closed one sign two : List ℕ)
    → opened ≡ old ++ (if asked then codes "(" else codes "")
    → left ≡ opened ++ one → signed ≡ left ++ sign → right ≡ signed ++ two
    → closed ≡ right ++ (if asked then codes ")" else codes "")
    → closed ≡ old ++ in_parens asked (one ++ sign ++ two)
put_joined true old opened left signed right closed one sign two a b c d e =
    rw (e, d, c, b, a) (search (rules, append_assoc))
put_joined false old opened left signed right closed one sign two a b c d e =
    put_plain old opened left signed right closed one sign two a b c d e
