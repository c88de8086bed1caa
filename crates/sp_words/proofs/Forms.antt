-- Words in form and out of it, and what is due of them.
use Rattle.std.proofs.Common.{◌≡◌, ◌≢◌, ◌∙◌, ◌+◌, ◌==◌, ℕ, Bool, true, false, List, [], ◌∷◌, refl, sym, subst, ap, arith, map, length, Ok, Err, Result}
use Rattle.std.proofs.lemmas.Bool.Decides.{nat_tests}
use Rattle.std.proofs.lemmas.Grind.{common_steps}
use Rattle.std.proofs.lemmas.List.{length-map}
use Rattle.std.specs.Prelude.{nat_le}
use Rattle.clap.specs.Walk.{Row, is_empty, rows_of}
use Rattle.clap.specs.Matches.{found_of}
use Rattle.clap.specs.Simple.{App, matches_of}
use Rattle.clap.specs.Faults.{fault_of, is_simple_and_free}
use Rattle.clap.specs.declared.parser.matches.ArgMatches.{ArgMatches}
use Rattle.sp_report.specs.declared.answer.OptionName.{OptionName}
use Rattle.sp_report.specs.declared.answer.UsageKind.{UsageKind}
use Rattle.sp_report.specs.declared.answer.UsageKind.TheVariants.{NoCommand, UnknownCommand, Form, BadValue}
use Rattle.sp_words.specs.Split.{Text}
use Rattle.sp_words.specs.Commands.{IsParsed, demo_app, live_app, run_app, view_app}
use Rattle.sp_words.specs.Options.{Values}
use Rattle.sp_words.specs.Asked.{Answers, IsMatched, Wanted, in_form, one_wanted, run_wanted, run_with}
use Rattle.sp_words.specs.declared.asked.Asked.{Asked}
use Rattle.sp_words.specs.declared.asked.WordFault.{WordFault}
use Rattle.sp_words.specs.declared.asked.WordFault.TheVariants.{Usage, NoMemory}

-- the commands have plain options
pub run_is_simple : is_simple_and_free run_app ≡ true
unfolding run_app
run_is_simple = refl

pub live_is_simple : is_simple_and_free live_app ≡ true
unfolding live_app
live_is_simple = refl

pub view_is_simple : is_simple_and_free view_app ≡ true
unfolding view_app
view_is_simple = refl

pub demo_is_simple : is_simple_and_free demo_app ≡ true
unfolding demo_app
demo_is_simple = refl

not_empty : {X : Type 0} (xs : List X) → xs ≢ [] → is_empty xs ≡ false
not_empty [] h = absurd (h refl)
not_empty (x ∷ xs) h =
    let some : length xs + 1 ≢ 0 = omega arith in
    grind (arith, common_steps, nat_tests)

-- words in which `clap` finds a fault are not in form
pub unparsed : (app : App) (options : List Text) (fits : Bool) (e : WordFault) → is_simple_and_free app ≡ true → IsParsed app options (Err e)
    → IsMatched app options fits (Err e)
unparsed app options fits NoMemory simple h = tt
unparsed app options fits (Usage Form) simple h = rw (not_empty (fault_of app options) (h simple)) refl
unparsed app options fits (Usage NoCommand) simple h = h
unparsed app options fits (Usage UnknownCommand) simple h = h
unparsed app options fits (Usage (BadValue name)) simple h = h

out_of_form : (app : App) (options : List Text) (fits : Bool) (due : Result Wanted UsageKind) (e : WordFault) → IsMatched app options fits (Err e)
    → Answers (in_form app options fits due) (Err e)
out_of_form app options fits due NoMemory h = tt
out_of_form app options fits due (Usage Form) h = rw h refl
out_of_form app options fits due (Usage NoCommand) h = absurd h
out_of_form app options fits due (Usage UnknownCommand) h = absurd h
out_of_form app options fits due (Usage (BadValue name)) h = absurd h

due_in_form : (app : App) (options : List Text) (fits : Bool) (due : Result Wanted UsageKind) (m : ArgMatches) → IsMatched app options fits (Ok m)
    → in_form app options fits due ≡ due
due_in_form app options fits due m h = rw (h.0) refl

answers_as : (a b : Result Wanted UsageKind) (r : Result Asked WordFault) → a ≡ b → Answers b r → Answers a r
answers_as a b r e h =
    let P : Result Wanted UsageKind → Type 0 = λ due. Answers due r in
    subst P (sym e) h

-- a run, with its positionals as words
pub run_in_form : {X : Type 0} (f : X → Text) (app : App) (values : List Row → Result Values OptionName) (options : List Text) (words : List X) (m : ArgMatches) (v : Result Values OptionName) (r : Result Asked WordFault)
    → IsMatched app options (nat_le 1 (length words)) (Ok m) → values (rows_of (found_of m)) ≡ v → Answers (run_with v (map f words)) r
    → Answers (run_wanted app values options (map f words)) r
unfolding run_wanted
run_in_form f app values options words m v r h e answers =
    let due = run_with (values (matches_of app options)) (map f words) in
    let same : due ≡ run_with v (map f words) = ap (λ rows. run_with (values rows) (map f words)) (sym h.1) ∙ ap (λ w. run_with w (map f words)) e in
    let counted : Answers (in_form app options (nat_le 1 (length words)) due) r = answers_as _ _ r (due_in_form app options (nat_le 1 (length words)) due m h ∙ same) answers in
    let P : ℕ → Type 0 = λ n. Answers (in_form app options (nat_le 1 n) due) r in
    subst P (sym (length-map words f)) counted

pub run_out_of_form : {X : Type 0} (f : X → Text) (app : App) (values : List Row → Result Values OptionName) (options : List Text) (words : List X) (e : WordFault)
    → IsMatched app options (nat_le 1 (length words)) (Err e)
    → Answers (run_wanted app values options (map f words)) (Err e)
unfolding run_wanted
run_out_of_form f app values options words e h =
    let due = run_with (values (matches_of app options)) (map f words) in
    let P : ℕ → Type 0 = λ n. Answers (in_form app options (nat_le 1 n) due) (Err e) in
    subst P (sym (length-map words f)) (out_of_form app options (nat_le 1 (length words)) due e h)

-- a command with one positional
pub one_in_form : {X : Type 0} (f : X → Text) (app : App) (due : List Text → Result Wanted UsageKind) (options : List Text) (words : List X) (m : ArgMatches) (r : Result Asked WordFault)
    → IsMatched app options (length words == 1) (Ok m) → Answers (due (map f words)) r
    → Answers (one_wanted app due options (map f words)) r
unfolding one_wanted
one_in_form f app due options words m r h answers =
    let counted : Answers (in_form app options (length words == 1) (due (map f words))) r = answers_as _ _ r (due_in_form app options (length words == 1) (due (map f words)) m h) answers in
    let P : ℕ → Type 0 = λ n. Answers (in_form app options (n == 1) (due (map f words))) r in
    subst P (sym (length-map words f)) counted

pub one_out_of_form : {X : Type 0} (f : X → Text) (app : App) (due : List Text → Result Wanted UsageKind) (options : List Text) (words : List X) (e : WordFault)
    → IsMatched app options (length words == 1) (Err e)
    → Answers (one_wanted app due options (map f words)) (Err e)
unfolding one_wanted
one_out_of_form f app due options words e h =
    let P : ℕ → Type 0 = λ n. Answers (in_form app options (n == 1) (due (map f words))) (Err e) in
    subst P (sym (length-map words f)) (out_of_form app options (length words == 1) (due (map f words)) e h)
