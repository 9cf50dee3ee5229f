-- The job that words give is what `clap` promises of them.
use Rattle.std.proofs.Common.{rules, ◌≡◌, ◌≢◌, ◌∙◌, cond, Bool, true, false, List, None, Some, refl, sym, subst, codes, true≢false}
use Rattle.std.proofs.lemmas.Slice.Eq.{bytes_eq-Decides}
use Rattle.std.specs.Str.{bytes_eq}
use Rattle.tre_words.specs.CommandLine.{ByClap, found_in, rows_in}
use Rattle.tre_words.specs.Job.{GivesPlain, MayStand, SaysJob, Says}
use Rattle.tre_words.specs.Settings.{Text, Types, said}
use Rattle.tre_words.specs.declared.job.Job.{Job}
use Rattle.tre_words.proofs.Ending.{settings_faultless, settings_text, settings_values}
use Rattle.tre_words.proofs.Taken.{AreUtf8, taken}

-- ---- two that say the same but of the text

abbrev Same : Says → Says → Type 0
Same one other = (name : Text) → name ≢ codes "EXPR" → one name ≡ other name

abbrev beside : Says → Says
beside says name = cond (bytes_eq name (codes "EXPR")) None (says name)

same_beside : (one other : Says) → Same one other → beside one ≡ beside other
same_beside one other same = λ i. λ (name : Text). at name (bytes_eq name (codes "EXPR")) refl i
  where
    at : (name : Text) (b : Bool) → bytes_eq name (codes "EXPR") ≡ b
        → cond b None (one name) ≡ cond b None (other name)
    at name true e = refl
    at name false e = same name (λ is. absurd (true≢false
        (sym ((bytes_eq-Decides name (codes "EXPR")).1 is) ∙ e)))

says_beside : (says : Says) (job : Job) → SaysJob says job → SaysJob (beside says) job
says_beside says job it = search rules

beside_says : (says : Says) (job : Job) → SaysJob (beside says) job → SaysJob says job
beside_says says job it = search rules

says_same : (one other : Says) (job : Job) → Same one other → SaysJob one job → SaysJob other job
says_same one other job same says = beside_says other job
    (subst (λ (says : Says). SaysJob says job) (same_beside one other same)
    (says_beside one job says))

stands_same : (one other : Says) (job : Job) → Same one other → MayStand one job
    → MayStand other job
stands_same one other job same stands =
    let moved = subst (λ (says : Says). MayStand says job) (same_beside one other same)
    (stands.0, stands.1, record { columns = stands.2.columns; signals = stands.2.signals }) in
    (moved.0, moved.1, record { columns = moved.2.columns; signals = moved.2.signals })

-- ---- both are one

pub by_clap : (words : List Text) (job : Job) → GivesPlain words job → ByClap words job
by_clap words job gives =
    let same : Same (said gives.settings) (found_in (rows_in words)) =
    λ name other. sym (settings_values words gives.settings job.expr gives.typed gives.types name other) in
    record {
      faultless = settings_faultless words gives.settings job.expr gives.typed gives.types;
      finds = record {
        says = says_same (said gives.settings) (found_in (rows_in words)) job same gives.says;
        expr = settings_text words gives.settings job.expr gives.typed gives.types;
      };
      stands = stands_same (said gives.settings) (found_in (rows_in words)) job same gives.stands;
    }

pub from_clap : (words : List Text) (job : Job) → AreUtf8 words → ByClap words job
    → GivesPlain words job
from_clap words job utf8 by =
    let types = taken words utf8 by.faultless in
    let typed = types.left.typed in
    let same : Same (found_in (rows_in words)) (said types.settings) =
    settings_values words types.settings types.text typed types.types in
    let text : types.text ≡ job.expr =
    one_value (sym (settings_text words types.settings types.text typed types.types) ∙ by.finds.expr) in
    record {
      settings = types.settings;
      typed = typed;
      types = subst (Types words types.settings) text types.types;
      says = says_same (found_in (rows_in words)) (said types.settings) job same by.finds.says;
      stands = stands_same (found_in (rows_in words)) (said types.settings) job same by.stands;
    }
  where
    one_value : {X : Type 0} {x y : X} → Some x ≡ Some y → x ≡ y
    one_value e = cc
