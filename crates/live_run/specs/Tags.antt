-- The tags of a run's jobs: the cut at which each starts, 0 for the first one, and the cut at which it ends, 0 for the last one.
use Rattle.std.specs.Prelude.{ℕ, zero, suc, ◌+◌, List, [], ◌∷◌, Option, None, Some}
use Rattle.guest_model.specs.Serial.{Position}
use Rattle.boundary_verify.specs.Path.{Path, last_path, path_between}
use Rattle.rv_machine.specs.declared.step.End.{End}
use Rattle.slice_ring.specs.Ticket.{Tag}

-- the tags of the jobs between neighbouring cuts, from position b on, and of the last job, where the run ended
abbrev pub tags_from : ℕ → List ℕ → Option End → List Tag
tags_from b [] None = []
tags_from b [] (Some end) = (b, 0) ∷ []
tags_from b (c ∷ cuts) ended = (b, c) ∷ tags_from c cuts ended

-- the path of the job from b to the cut c, or to the end of the run from p, whose last position is t
abbrev pub path_to : Position → ℕ → ℕ → ℕ → Path
path_to p t b zero = last_path p b t
path_to p t b (suc c) = path_between p b (suc c)

abbrev pub path_of_tag : Position → ℕ → Tag → Path
path_of_tag p t tag = path_to p t tag.0 tag.1

-- how many steps are made up to the end of the job
abbrev pub end_at : ℕ → ℕ → ℕ
end_at t zero = t + 1
end_at t (suc c) = suc c

-- the same of the last of these jobs, the first of which starts at b
abbrev pub reached_by : ℕ → ℕ → List Tag → ℕ
reached_by t b [] = b
reached_by t b (tag ∷ tags) = reached_by t (end_at t tag.1) tags
