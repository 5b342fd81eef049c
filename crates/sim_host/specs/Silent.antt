-- A host that tells nothing of what files and channels hold.
use Rattle.std.specs.Prelude.{Bool, None}
use Rattle.sim_host.specs.Host.{Seen}

-- it shows only whether a file and the channel File are begun
abbrev pub silent : Bool → Bool → Seen
silent is_begun is_created = record {
  files = None;
  left = None;
  written = record { out = None; err = None; file = None };
  asked = None;
  is_begun = is_begun;
  is_created = is_created;
}
