-- What a request asks for.
use Rattle.std.specs.Prelude.{ℕ, ◌==◌, ◌||◌, Bool, List, [], length, codes, bytes_eq, unwrap_or, Option, Some, None, Result, Ok, Err, if◌then◌else◌}
use Rattle.http.specs.declared.request.Request.{Request}
use Rattle.http.specs.Request.{head_of}
use Rattle.http_uri.specs.Uri.{uri_path, uri_query}
use Rattle.pcep_word.specs.Priority.{in_force}
use Rattle.asks.specs.declared.ask.Ask.TheVariants as ask
use Rattle.asks.specs.Limits.{limits_of}
use Rattle.asks.specs.declared.ask.PathLimits.{PathLimits}
use Rattle.asks.specs.declared.ask.PeerPage.{PeerPage}
use Rattle.http_views.specs.Hosts.{is_own}
use Rattle.http_views.specs.Queries.{link_query, lsps_query, path_query}
use Rattle.http_views.specs.declared.asked.Asked.{Asked}
use Rattle.http_views.specs.declared.asked.Asked.TheVariants.{Page, Metrics, Places, Document, NotFound, NotAllowed}
use Rattle.http_views.specs.declared.asked.Asked.TheVariants as asked
use Rattle.http_views.specs.declared.query.LspsQuery.{LspsQuery}
use Rattle.http_views.specs.declared.query.PathQuery.{PathQuery}
use Rattle.http_views.specs.declared.query.Wrong.{Wrong}
use Rattle.http_views.specs.declared.query.Wrong.TheVariants as wrong

abbrev pub wrong_text : Wrong → List ℕ
wrong_text wrong.Host = codes "bad host\n"
wrong_text wrong.Query = codes "bad query\n"
wrong_text wrong.Peer = codes "bad peer\n"
wrong_text wrong.From = codes "bad from\n"
wrong_text wrong.To = codes "bad to\n"
wrong_text wrong.Bandwidth = codes "bad bandwidth\n"
wrong_text wrong.Setup = codes "bad setup\n"
wrong_text wrong.Hold = codes "bad hold\n"
wrong_text wrong.Number = codes "bad number\n"
wrong_text wrong.Limit = codes "bad limit\n"

-- what is asked at a path that takes no query
abbrev pub alone : List ℕ → Asked → Asked
alone query a = if length query == 0 then a else asked.Wrong wrong.Query

-- the page of these LSPs; by default, of all peers and from the first on
abbrev pub page_of : LspsQuery → PeerPage
page_of query = record { peer = query.peer; from = unwrap_or query.from 0 }

-- a page of LSPs
abbrev pub lsps_given : Result LspsQuery Wrong → Asked
lsps_given (Ok query) = Document (ask.Lsps (page_of query))
lsps_given (Err w) = asked.Wrong w

abbrev pub lsps_asked : List ℕ → Asked
lsps_asked query = lsps_given (lsps_query query)

-- a page of grants, likewise
abbrev pub grants_given : Result LspsQuery Wrong → Asked
grants_given (Ok query) = Document (ask.Grants (page_of query))
grants_given (Err w) = asked.Wrong w

abbrev pub grants_asked : List ℕ → Asked
grants_asked query = grants_given (lsps_query query)

abbrev pub link_given : Result (Option ℕ) Wrong → Asked
link_given (Ok (Some link)) = Document (ask.Link link)
link_given (Ok None) = asked.Wrong wrong.Number
link_given (Err w) = asked.Wrong w

abbrev pub link_asked : List ℕ → Asked
link_asked query = link_given (link_query query)

-- a path, for a bandwidth between two addresses; a priority that isn't given is the lowest
abbrev pub path_with : Option ℕ → Option ℕ → Option ℕ → ℕ → ℕ → PathLimits → Asked
path_with None to bandwidth setup hold limits = asked.Wrong wrong.From
path_with (Some from) None bandwidth setup hold limits = asked.Wrong wrong.To
path_with (Some from) (Some to) None setup hold limits = asked.Wrong wrong.Bandwidth
path_with (Some from) (Some to) (Some bandwidth) setup hold limits = Document (ask.Path (record { from = from; to = to; bandwidth = bandwidth; priorities = in_force setup hold; limits = limits }))

unfoldable pub path_of_query : PathQuery → Asked
path_of_query query = path_with query.from query.to query.bandwidth (unwrap_or query.setup 7) (unwrap_or query.hold 7) (limits_of query.keys)

abbrev pub path_given : Result PathQuery Wrong → Asked
path_given (Ok query) = path_of_query query
path_given (Err w) = asked.Wrong w

abbrev pub path_asked : List ℕ → Asked
path_asked query = path_given (path_query query)

-- what is asked at a path with a query
unfoldable pub asked_at : List ℕ → List ℕ → Asked
asked_at path query =
    if bytes_eq path (codes "/") then alone query Page
    else if bytes_eq path (codes "/metrics") then alone query Metrics
    else if bytes_eq path (codes "/api/places") then alone query Places
    else if bytes_eq path (codes "/api/status") then alone query (Document ask.Status)
    else if bytes_eq path (codes "/api/links") then alone query (Document ask.Links)
    else if bytes_eq path (codes "/api/peers") then alone query (Document ask.Peers)
    else if bytes_eq path (codes "/api/tickets") then alone query (Document ask.Tickets)
    else if bytes_eq path (codes "/api/lsps") then lsps_asked query
    else if bytes_eq path (codes "/api/grants") then grants_asked query
    else if bytes_eq path (codes "/api/link") then link_asked query
    else if bytes_eq path (codes "/api/path") then path_asked query
    else NotFound

abbrev pub only_reads : List ℕ → Bool
only_reads method = bytes_eq method (codes "GET") || bytes_eq method (codes "HEAD")

-- what exists may only be read
abbrev pub allowed : List ℕ → Asked → Asked
allowed method NotFound = NotFound
allowed method a = if only_reads method then a else NotAllowed

-- what a request asks for, if it names this server by an address or by the name that it was given
abbrev pub asked_of : List ℕ → List ℕ → List ℕ → Asked
asked_of method path query = allowed method (asked_at path query)

abbrev pub asked_by : List ℕ → Request (List ℕ) → Asked
asked_by own request =
    if is_own own (head_of request).uri (head_of request).headers
    then asked_of (head_of request).method (uri_path (head_of request).uri) (unwrap_or (uri_query (head_of request).uri) [])
    else asked.Wrong wrong.Host
