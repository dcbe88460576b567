-- Some words, and the jobs that they are by the definitions alone.
use Rattle.std.proofs.Common.{◌≡◌, refl, [], ◌∷◌, true, Some, None, codes}
use Rattle.clap.proofs.OnLiterals.{clap_on_literals}
use Rattle.lid_top_words.specs.declared.job.Job.TheVariants.{Check, Clock, Emit, Free, Gen, Place, Rate, Size, Slack, Strict, Verify, Walk}
use Rattle.lid_base.specs.Numbers.{number_below}
use Rattle.lid_top_words.specs.Reading.{lid_app, given_in}
use Rattle.lid_top_words.specs.Jobs.{is_given, is_tallied, files_in, file_at, name_in, seed_in, number_if, number_or, is_allowed, has_only, has_each, is_within, fits, option_fits, has_both, has_form, job_made, job_formed, form_in, job_given, job_of}

unfoldable words_on_literals : Unit {0}
unfolding clap_on_literals lid_app given_in is_given is_tallied number_below files_in file_at name_in seed_in number_if number_or is_allowed has_only has_each is_within fits option_fits has_both has_form job_made job_formed form_in job_given job_of
words_on_literals = tt

-- `check --root m a`
check_with_root : job_of (codes "check" ∷ codes "--root" ∷ codes "m" ∷ codes "a" ∷ []) ≡ Some (Check (codes "a") (Some (codes "m")))
unfolding words_on_literals
check_with_root = refl

-- `strict a b --root=m`
strict_with_root : job_of (codes "strict" ∷ codes "a" ∷ codes "b" ∷ codes "--root=m" ∷ []) ≡ Some (Strict (codes "a") (codes "b") (Some (codes "m")))
unfolding words_on_literals
strict_with_root = refl

-- `clock a b --trace 7 --stations s`
clock_with_trace : job_of (codes "clock" ∷ codes "a" ∷ codes "b" ∷ codes "--trace" ∷ codes "7" ∷ codes "--stations" ∷ codes "s" ∷ []) ≡ Some (Clock (codes "a") (codes "b") (Some (codes "s")) None 1 (Some 7) None)
unfolding words_on_literals
clock_with_trace = refl

-- `clock a b --stalls h`
clock_with_stalls : job_of (codes "clock" ∷ codes "a" ∷ codes "b" ∷ codes "--stalls" ∷ codes "h" ∷ []) ≡ Some (Clock (codes "a") (codes "b") None (Some (codes "h")) 1 None None)
unfolding words_on_literals
clock_with_stalls = refl

-- `clock a b --workers 2`
clock_on_workers : job_of (codes "clock" ∷ codes "a" ∷ codes "b" ∷ codes "--workers" ∷ codes "2" ∷ []) ≡ Some (Clock (codes "a") (codes "b") None None 2 None None)
unfolding words_on_literals
clock_on_workers = refl

-- `place a --wires w --reach 10`
place_with_reach : job_of (codes "place" ∷ codes "a" ∷ codes "--wires" ∷ codes "w" ∷ codes "--reach" ∷ codes "10" ∷ []) ≡ Some (Place (codes "a") (codes "w") 10 None)
unfolding words_on_literals
place_with_reach = refl

-- `walk a b --schedule s`
walk_with_schedule : job_of (codes "walk" ∷ codes "a" ∷ codes "b" ∷ codes "--schedule" ∷ codes "s" ∷ []) ≡ Some (Walk (codes "a") (codes "b") (codes "s") None None)
unfolding words_on_literals
walk_with_schedule = refl

-- `free a b --rounds 7 --tally`
free_with_tally : job_of (codes "free" ∷ codes "a" ∷ codes "b" ∷ codes "--rounds" ∷ codes "7" ∷ codes "--tally" ∷ []) ≡ Some (Free (codes "a") (codes "b") None 1 7 true None)
unfolding words_on_literals
free_with_tally = refl

-- `gen 2 --shells 3`
gen_with_shells : job_of (codes "gen" ∷ codes "2" ∷ codes "--shells" ∷ codes "3" ∷ []) ≡ Some (Gen 2 3 None)
unfolding words_on_literals
gen_with_shells = refl

-- `rate a --stations s`
rate_with_stations : job_of (codes "rate" ∷ codes "a" ∷ codes "--stations" ∷ codes "s" ∷ []) ≡ Some (Rate (codes "a") (Some (codes "s")) None)
unfolding words_on_literals
rate_with_stations = refl

-- `verify a c --root m`
verify_with_root : job_of (codes "verify" ∷ codes "a" ∷ codes "c" ∷ codes "--root" ∷ codes "m" ∷ []) ≡ Some (Verify (codes "a") (codes "c") None (Some (codes "m")))
unfolding words_on_literals
verify_with_root = refl

-- two files of `check`, one of `strict`, an option of another command, the flag of another, a number out of its
-- range, an option that is not there, and stalls on workers
words_are_no_job :
    (job_of (codes "check" ∷ codes "a" ∷ codes "b" ∷ []) ≡ None)
    × (job_of (codes "strict" ∷ codes "a" ∷ []) ≡ None)
    × (job_of (codes "strict" ∷ codes "a" ∷ codes "b" ∷ codes "--workers" ∷ codes "2" ∷ []) ≡ None)
    × (job_of (codes "strict" ∷ codes "a" ∷ codes "b" ∷ codes "--tally" ∷ []) ≡ None)
    × (job_of (codes "place" ∷ codes "a" ∷ codes "--wires" ∷ codes "w" ∷ codes "--reach" ∷ codes "0" ∷ []) ≡ None)
    × (job_of (codes "place" ∷ codes "a" ∷ codes "--reach" ∷ codes "10" ∷ []) ≡ None)
    × (job_of (codes "clock" ∷ codes "a" ∷ codes "b" ∷ codes "--workers" ∷ codes "2" ∷ codes "--stalls" ∷ codes "h" ∷ []) ≡ None)
unfolding words_on_literals
words_are_no_job = (refl, refl, refl, refl, refl, refl, refl)

-- an option twice, one without its value, the flag twice, and the flag with a value
words_are_not_given :
    (given_in (codes "strict" ∷ codes "a" ∷ codes "b" ∷ codes "--root" ∷ codes "m" ∷ codes "--root" ∷ codes "m" ∷ []) ≡ None)
    × (given_in (codes "strict" ∷ codes "a" ∷ codes "b" ∷ codes "--root" ∷ []) ≡ None)
    × (given_in (codes "free" ∷ codes "a" ∷ codes "b" ∷ codes "--tally" ∷ codes "--tally" ∷ []) ≡ None)
    × (given_in (codes "free" ∷ codes "a" ∷ codes "b" ∷ codes "--tally=x" ∷ []) ≡ None)
unfolding words_on_literals
words_are_not_given = (refl, refl, refl, refl)

-- `emit a --stations s --root m`
emit_with_stations : job_of (codes "emit" ∷ codes "a" ∷ codes "--stations" ∷ codes "s" ∷ codes "--root" ∷ codes "m" ∷ []) ≡ Some (Emit (codes "a") (Some (codes "s")) (Some (codes "m")))
unfolding words_on_literals
emit_with_stations = refl

-- `slack a`
slack_alone : job_of (codes "slack" ∷ codes "a" ∷ []) ≡ Some (Slack (codes "a") None None)
unfolding words_on_literals
slack_alone = refl

-- `size a --stations s`
size_with_stations : job_of (codes "size" ∷ codes "a" ∷ codes "--stations" ∷ codes "s" ∷ []) ≡ Some (Size (codes "a") (Some (codes "s")) None)
unfolding words_on_literals
size_with_stations = refl
