-- What the fields of a job stand for, and what is true of them.
use Rattle.std.specs.Prelude.{◌≡◌, true}
use Rattle.pf_property.specs.Views.{property_of}
use Rattle.pf_request.specs.Job.{Job}
use Rattle.pf_request.specs.Request.{choices_in, may_shrink, runs_in}
use Rattle.pf_request.specs.View.{view_of_kind}
use Rattle.pf_sched.specs.declared.job.Job.TheInside as job
use Rattle.pf_sched.specs.Asked.{IsValid}

abbrev pub job_in : job.Inside → Job
job_in j =
    record {
      source = j.module.source;
      asked = record {
        code = j.module.code;
        root = j.root.0;
        choices = choices_in (view_of_kind j.kind);
        limit = j.limit;
        property = property_of j.property;
        runs = runs_in (view_of_kind j.kind);
        edition = j.edition;
      };
    }

-- it is a valid job, and if it is a shrinking its runs are within their bounds
abbrev pub IsSound : job.Inside → Type 0
IsSound j = IsValid (job_in j) × (may_shrink (view_of_kind j.kind) ≡ true)
