-- What is shown to a question: what one look saw, with what routers said of it.
use Rattle.std.specs.Prelude.{◌≡◌, ℕ, true, false, List, Option, None}
use Rattle.asks.specs.declared.ask.Ask.{Ask}
use Rattle.asks.specs.declared.ask.Ask.TheVariants as ask
use Rattle.history_core.specs.Histories.{Content}
use Rattle.database_looks.specs.Looks.{counts_in, SeesBook, SeesLink}
use Rattle.pce_view.specs.Better.{next_better, IsBetterText, SeesMovable}
use Rattle.pce_view.specs.Grants.{next_grants, ReadsGrants, SeesGrants}
use Rattle.pce_view.specs.History.{ReadsHistory, SeesSteps}
use Rattle.pce_view.specs.Link.{IsLinkText}
use Rattle.pce_view.specs.LinkLine.{ReadsLinkLine}
use Rattle.pce_view.specs.Links.{ReadsLinks}
use Rattle.pce_view.specs.Lsp.{ReadsLsp, SeesLsp}
use Rattle.pce_view.specs.Lsps.{next_lsps, ReadsLsps, SeesLsps}
use Rattle.pce_view.specs.Origins.{SeesOrigins}
use Rattle.pce_view.specs.Path.{ReadsPath, SeesNetwork}
use Rattle.pce_view.specs.Peers.{ReadsPeers, SeesPeers}
use Rattle.pce_view.specs.Questions.{AnswersAs}
use Rattle.pce_view.specs.Status.{ReadsStatus}
use Rattle.pce_view.specs.Tickets.{ReadsTickets, SeesTickets}
use Rattle.pce_view.specs.Tunnels.{next_tunnels, ReadsTunnels, SeesTunnels}
use Rattle.pce_view.specs.Why.{ReadsWhy}
use Rattle.pce_view.specs.Without.{IsRunOrNull, SeesDisplaced}
use Rattle.pce_view.specs.declared.heard.Heard.{Heard}
use Rattle.pce_view.specs.declared.question.Form.{Form}
use Rattle.pce_view.specs.declared.question.ServerInfo.{ServerInfo}

-- a page of a question: by what it sees in a database, as what its text is read, and what is asked next
pub record PageOf {S : Type 0} (sees : Content → S → Type 0) (reads : ServerInfo → Heard → S → List ℕ → Type 0) (follows : S → Option Ask) (form : Form) (info : ServerInfo) (d : Content) (next : Option Ask) (page : List ℕ) : Type 0 where
  pub seen : S
  pub heard : Heard
  pub is_seen : sees d seen
  pub answers : AnswersAs reads form info heard seen page
  pub next_is : next ≡ follows seen

-- to what is asked this page is shown of this database
abbrev pub IsPageOf : Form → ServerInfo → Content → Ask → Option Ask → List ℕ → Type 0
IsPageOf form info d ask.Status next page = PageOf (λ c seen. seen ≡ counts_in c) (λ a h seen text. ReadsStatus a seen text) (λ seen. None) form info d next page
IsPageOf form info d ask.Links next page = PageOf SeesBook (λ a h seen text. ReadsLinks seen text) (λ seen. None) form info d next page
IsPageOf form info d (ask.LinkLine link) next page = PageOf (SeesLink link false) (λ a h seen text. ReadsLinkLine link seen text) (λ seen. None) form info d next page
IsPageOf form info d (ask.Link link) next page = PageOf (SeesLink link true) (λ a h seen text. IsLinkText link seen text) (λ seen. None) form info d next page
IsPageOf form info d ask.Peers next page = PageOf SeesPeers (λ a h seen text. ReadsPeers a seen text) (λ seen. None) form info d next page
IsPageOf form info d ask.Tickets next page = PageOf SeesTickets (λ a h seen text. ReadsTickets seen.items text) (λ seen. None) form info d next page
IsPageOf form info d (ask.Lsps q) next page = PageOf (SeesLsps q.peer q.from) (λ a h seen text. ReadsLsps q h seen text) (next_lsps q) form info d next page
IsPageOf form info d (ask.Lsp q) next page = PageOf (SeesLsp q) (λ a h seen text. ReadsLsp h seen text) (λ seen. None) form info d next page
IsPageOf form info d (ask.History last) next page = PageOf (SeesSteps last) (λ a h seen text. ReadsHistory seen text) (λ seen. None) form info d next page
IsPageOf form info d (ask.Why q) next page = PageOf (SeesOrigins q.peer q.plsp) (λ a h seen text. ReadsWhy a seen text) (λ seen. None) form info d next page
IsPageOf form info d (ask.Better q) next page = PageOf (SeesMovable q.peer q.from) (λ a h seen text. IsBetterText q.from seen text) (next_better q) form info d next page
IsPageOf form info d (ask.Without link) next page = PageOf (SeesDisplaced link) (λ a h seen text. IsRunOrNull link seen text) (λ seen. None) form info d next page
IsPageOf form info d (ask.Grants q) next page = PageOf (SeesGrants q.peer q.from) (λ a h seen text. ReadsGrants q a h seen text) (next_grants q) form info d next page
IsPageOf form info d (ask.Path q) next page = PageOf SeesNetwork (λ a h seen text. ReadsPath q seen text) (λ seen. None) form info d next page
IsPageOf form info d (ask.Tunnels q) next page = PageOf (SeesTunnels q) (λ a h seen text. ReadsTunnels q seen text) (next_tunnels q) form info d next page
