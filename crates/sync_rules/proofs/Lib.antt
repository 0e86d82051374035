mod PeerRows
