-- The news of what is pending, as the code holds it.
use Rattle.std.specs.Prelude.{◌≡◌, ◌⊎◌, ◌&&◌, Bool, true, false, List, []}
use Rattle.iv_catalogue.specs.declared.cause.Fault.{Fault}
use Rattle.iv_machine.specs.Machine.{State}
use Rattle.iv_script.specs.Transcript as spec
use Rattle.iv_script.specs.Transcript.{news_since, no_news}
use Rattle.iv_script.specs.declared.news.News.{News}

abbrev pub news_seen : News → spec.News
news_seen n = record { came = n.came.entries; went = n.went.items; listed = n.listed.items }

-- Inside a transaction, where nothing stands against it: what came and went since these were listed; or memory for that is refused, and the
-- news say so.
abbrev pub AreNewsSince : List Fault → State → News → Type 0
AreNewsSince listed s n =
    ((news_seen n ≡ news_since listed s) × (n.is_refused ≡ false)) ⊎ ((news_seen n ≡ no_news listed) × (n.is_refused ≡ true))

abbrev pub AreNewsUnless : Bool → List Fault → State → News → Type 0
AreNewsUnless true listed s n = (news_seen n ≡ no_news listed) × (n.is_refused ≡ false)
AreNewsUnless false listed s n = AreNewsSince listed s n

-- The news where lines may be told or may not, after a statement that memory was refused to, or to its account, or wasn't.
abbrev pub AreNews : Bool → Bool → List Fault → State → News → Type 0
AreNews true refused listed s n = AreNewsUnless refused listed s n
AreNews false refused listed s n = (news_seen n ≡ no_news []) × (n.is_refused ≡ false)
