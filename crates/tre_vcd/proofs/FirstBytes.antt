-- What a token says, by what its first byte makes it.
use Rattle.std.proofs.Common.{◌≡◌, ℕ, ◌==◌, ◌||◌, Bool, true, false, List, [], ◌∷◌, length, codes, Result, Err, refl, ap, ◌∙◌, arith, if◌then◌else◌}
use Rattle.std.specs.List.{list_any}
use Rattle.tre_parts.specs.Format.{Step}
use Rattle.tre_trace.specs.declared.fault.TraceKind.{TraceKind}
use Rattle.tre_trace.specs.declared.fault.TraceKind.TheVariants.{BadToken}
use Rattle.tre_vcd.specs.Letters.{letter_of}
use Rattle.tre_vcd.specs.VcdReading.{Terms, Statement, nothing, number, Place, is_scalar, goes_to, ticks_say, keyword_says, vector_says, scalar_says, value_says}
use Rattle.tre_vcd.specs.declared.token.Letter.{Letter}
use Rattle.tre_vcd.specs.declared.token.Letter.TheVariants.{Time, Keyword, Vector, Number, Scalar, Other}

abbrev pub says_as : Terms → List Statement → ℕ → List ℕ → Letter → Result (Step Place) TraceKind
says_as terms past byte bytes Time = ticks_say terms past bytes
says_as terms past byte bytes Keyword = keyword_says past (byte ∷ bytes)
says_as terms past byte bytes Vector = vector_says past bytes
says_as terms past byte bytes Number = goes_to past number
says_as terms past byte bytes Scalar = scalar_says past byte bytes
says_as terms past byte bytes Other = Err BadToken

picked : (a b c d e : Bool) (says : Letter → Result (Step Place) TraceKind)
    → (if a then says Time else (if b then says Keyword else (if c then says Vector
    else (if d then says Number else (if e then says Scalar else says Other)))))
    ≡ says (if a then Time else (if b then Keyword else (if c then Vector else (if d then Number
    else (if e then Scalar else Other)))))
picked true b c d e says = refl
picked false true c d e says = refl
picked false false true d e says = refl
picked false false false true e says = refl
picked false false false false true says = refl
picked false false false false false says = refl

pub letter-says : (terms : Terms) (past : List Statement) (token : List ℕ) (byte : ℕ)
    (bytes : List ℕ) (letter : Letter) → token ≡ byte ∷ bytes → letter_of byte ≡ letter
    → value_says terms past token ≡ says_as terms past byte bytes letter
letter-says terms past token byte bytes letter whole is =
    ap (value_says terms past) whole
    ∙ picked (byte == 35) (byte == 36) (byte == 98 || byte == 66)
    (list_any (λ letter. byte == letter) (codes "rRsS")) (is_scalar byte)
    (says_as terms past byte bytes)
    ∙ ap (says_as terms past byte bytes) is

-- a token of no bytes says nothing
pub nothing-said : (terms : Terms) (past : List Statement) (token : List ℕ) → length token ≡ 0
    → value_says terms past token ≡ goes_to past nothing
nothing-said terms past [] none = refl
nothing-said terms past (byte ∷ bytes) none = absurd (omega (arith, none))
