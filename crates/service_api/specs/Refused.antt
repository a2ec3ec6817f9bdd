-- The answers that name a refusal.
use Rattle.std.specs.Prelude.{◌≡◌, ℕ, List, codes, string_bytes}
use Rattle.control_requests.specs.Response.{error_data}
use Rattle.control_requests.specs.declared.response.Response.{Response}
use Rattle.control_requests.specs.declared.response.StatusCode.{StatusCode}
use Rattle.control_requests.specs.declared.response.StatusCode.TheVariants as status
use Rattle.serde_json.specs.Written.{compact_text}

-- the answer has this status, and names this reason
pub record IsRefusal (code : StatusCode) (why : List ℕ) (answer : Response) : Type 0 where
  pub status_is : answer.status ≡ code
  pub body : string_bytes answer.body ≡ compact_text (error_data why)

-- the answer that there is no such leg
abbrev pub IsNoLeg : Response → Type 0
IsNoLeg = IsRefusal status.NotFound (codes "NoLeg")
